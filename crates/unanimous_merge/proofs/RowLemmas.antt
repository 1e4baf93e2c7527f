-- The layers of a snapshot in one table.
use Rattle.std.proofs.Common.{◌≡◌, ℕ, zero, suc, ◌+◌, ◌<◌, ◌≤◌, List, [], ◌∷◌, ◌++◌, map, length, get_or, take, refl, sym, ap, ◌∙◌, subst, arith, All, Option, Some, None, option_map}
use Rattle.std.proofs.lemmas.List.{map-append}
use Rattle.std.proofs.lemmas.Option.{same_Some}
use Rattle.std.specs.List.{slice_get}
use Rattle.layer_model.specs.Annotations.{Annotations}
use Rattle.content_keys.specs.declared.placed_layer.Placed.{Placed}
use Rattle.content_keys.specs.declared.placed_layer.PlacedLayer.{PlacedLayer}
use Rattle.content_keys.specs.LayerContents.{class_contents_of, contents_of}
use Rattle.content_keys.specs.Places.{contents_at}
use Rattle.content_keys.specs.Tables.{Starts}
use Rattle.unanimous_merge.specs.Rows.{AreRows}
use Rattle.unanimous_merge.proofs.ListLemmas.{all_append, all_cons, all_more, all_none, map_same, take_found, found_within}

grown_value : (ss t : List ℕ) → Starts ss t → (k : ℕ) → k < length ss → get_or t k 0 ≡ get_or ss k 0
grown_value [] t e k h = absurd (omega arith)
grown_value (v ∷ vs) [] e k h = cc
grown_value (v ∷ vs) (w ∷ ws) e zero h = cc
grown_value (v ∷ vs) (w ∷ ws) e (suc k) h = grown_value vs ws (cc) k (omega arith)

longer : (ss t : List ℕ) → Starts ss t → length ss ≤ length t
longer [] t e = omega arith
longer (v ∷ vs) [] e = cc
longer (v ∷ vs) (w ∷ ws) e = let r : length vs ≤ length ws = longer vs ws (cc) in omega arith

module _ (ss t : List ℕ) (grown : Starts ss t) where
  abbrev IsWithin : PlacedLayer → Type 0
  IsWithin row = All (λ p. p.place < length ss) row.marks.items × All (λ place. place < length ss) row.classes.items

  abbrev IsAlso : PlacedLayer → Type 0
  IsAlso row = All (λ p. p.place < length t) row.marks.items × All (λ place. place < length t) row.classes.items

  more : (k : ℕ) → k < length ss → k < length t
  more k h = let n : length ss ≤ length t = longer ss t grown in omega arith

  also : (row : PlacedLayer) → IsWithin row → IsAlso row
  also row h = (
    all_more (λ p. p.place < length ss) (λ p. p.place < length t) (λ p b. more p.place b) row.marks.items h.0,
    all_more (λ place. place < length ss) (λ place. place < length t) (λ place b. more place b) row.classes.items h.1,
  )

  same_marks : (row : PlacedLayer) → IsWithin row → contents_at t row.marks.items ≡ contents_at ss row.marks.items
  same_marks row h =
      map_same (λ (p : Placed). p.place < length ss) (λ (p : Placed). (p.id, get_or t p.place 0)) (λ (p : Placed). (p.id, get_or ss p.place 0)) (λ p b. ap (λ n. (p.id, n)) (grown_value ss t grown p.place b)) row.marks.items h.0

  same_classes : (row : PlacedLayer) → IsWithin row → map (λ k. get_or t k 0) row.classes.items ≡ map (λ k. get_or ss k 0) row.classes.items
  same_classes row h = map_same (λ k. k < length ss) (λ k. get_or t k 0) (λ k. get_or ss k 0) (λ k b. grown_value ss t grown k b) row.classes.items h.1

  -- one layer more
  pub rows_more : (snapshot : List (List ℕ × Annotations)) (i : ℕ) (layer : Annotations) → Some layer ≡ option_map (λ (r : List ℕ × Annotations). r.1) (slice_get snapshot i) → (old new : List PlacedLayer) (row : PlacedLayer) → new ≡ old ++ row ∷ []
      → contents_at t row.marks.items ≡ contents_of layer → map (λ k. get_or t k 0) row.classes.items ≡ class_contents_of layer → IsAlso row → AreRows ss old (take i snapshot) → AreRows t new (take (i + 1) snapshot)
  rows_more snapshot i layer e old new row pushed marks classes within so_far = by (slice_get snapshot i) refl e
    where
      by : (o : Option (List ℕ × Annotations)) → slice_get snapshot i ≡ o → Some layer ≡ option_map (λ (r : List ℕ × Annotations). r.1) o → AreRows t new (take (i + 1) snapshot)
      by None f g = cc
      by (Some r) f g =
          let is : layer ≡ r.1 = same_Some _ _ g in
          let whole : take (i + 1) snapshot ≡ take i snapshot ++ r ∷ [] = take_found snapshot i r f in
          let P : List PlacedLayer → Type 0 = All IsAlso in
          record {
            marks = ap (map (λ (x : PlacedLayer). contents_at t x.marks.items)) pushed ∙ map-append (λ (x : PlacedLayer). contents_at t x.marks.items) old (row ∷ [])
                ∙ (λ j. (map_same IsWithin (λ (x : PlacedLayer). contents_at t x.marks.items) (λ (x : PlacedLayer). contents_at ss x.marks.items) same_marks old so_far.within ∙ so_far.marks) j ++ (marks ∙ ap contents_of is) j ∷ [])
                ∙ sym (ap (map (λ (x : List ℕ × Annotations). contents_of x.1)) whole ∙ map-append (λ (x : List ℕ × Annotations). contents_of x.1) (take i snapshot) (r ∷ []));
            classes = ap (map (λ (x : PlacedLayer). map (λ k. get_or t k 0) x.classes.items)) pushed ∙ map-append (λ (x : PlacedLayer). map (λ k. get_or t k 0) x.classes.items) old (row ∷ [])
                ∙ (λ j. (map_same IsWithin (λ (x : PlacedLayer). map (λ k. get_or t k 0) x.classes.items) (λ (x : PlacedLayer). map (λ k. get_or ss k 0) x.classes.items) same_classes old so_far.within ∙ so_far.classes) j ++ (classes ∙ ap class_contents_of is) j ∷ [])
                ∙ sym (ap (map (λ (x : List ℕ × Annotations). class_contents_of x.1)) whole ∙ map-append (λ (x : List ℕ × Annotations). class_contents_of x.1) (take i snapshot) (r ∷ []));
            within = subst P (sym pushed) (all_append IsAlso old (row ∷ []) (all_more IsWithin IsAlso also old so_far.within) (all_cons IsAlso row [] within (all_none IsAlso)));
          }

-- an index within has a layer
pub row_there : (snapshot : List (List ℕ × Annotations)) (i : ℕ) → i < length snapshot → ◌≡◌ {A = Option Annotations} None (option_map (λ (r : List ℕ × Annotations). r.1) (slice_get snapshot i)) → ⊥
row_there snapshot i h e = by (slice_get snapshot i) refl e
  where
    by : (o : Option (List ℕ × Annotations)) → slice_get snapshot i ≡ o → ◌≡◌ {A = Option Annotations} None (option_map (λ (r : List ℕ × Annotations). r.1) o) → ⊥
    by None f g = found_within snapshot i h f
    by (Some r) f g = cc

-- what holds of one layer more
pub layers_more : (P : Annotations → Type 0) (snapshot : List (List ℕ × Annotations)) (i : ℕ) (layer : Annotations) → Some layer ≡ option_map (λ (r : List ℕ × Annotations). r.1) (slice_get snapshot i) → P layer → All (λ (r : List ℕ × Annotations). P r.1) (take i snapshot)
    → All (λ (r : List ℕ × Annotations). P r.1) (take (i + 1) snapshot)
layers_more P snapshot i layer e here so_far = by (slice_get snapshot i) refl e
  where
    by : (o : Option (List ℕ × Annotations)) → slice_get snapshot i ≡ o → Some layer ≡ option_map (λ (r : List ℕ × Annotations). r.1) o → All (λ (r : List ℕ × Annotations). P r.1) (take (i + 1) snapshot)
    by None f g = cc
    by (Some r) f g =
        let Q : List (List ℕ × Annotations) → Type 0 = All (λ (x : List ℕ × Annotations). P x.1) in
        subst Q (sym (take_found snapshot i r f)) (all_append (λ (x : List ℕ × Annotations). P x.1) (take i snapshot) (r ∷ []) so_far (all_cons (λ (x : List ℕ × Annotations). P x.1) r [] (subst P (same_Some _ _ g) here) (all_none (λ (x : List ℕ × Annotations). P x.1))))
