-- One more annotation with a place.
use Rattle.std.proofs.Common.{◌≡◌, ℕ, ◌+◌, ◌<◌, ◌⊎◌, true, false, cond, List, [], ◌∷◌, ◌++◌, length, get_or, refl, sym, ap, ◌∙◌, subst, arith, inl, inr, Option, Some}
use Rattle.std.proofs.lemmas.Grind.{common_steps}
use Rattle.std.proofs.lemmas.Option.{same_Some}
use Rattle.std.specs.Ordering.{nat_cmp}
use Rattle.std.specs.Cmp.{Equal-is}
use Rattle.std.specs.FinMap.{nat_cmp-IsAntisymmetric}
use Rattle.std.specs.BTreeMap.{BTreeMap, get, is_at}
use Rattle.mark_base.specs.declared.ann_id.AnnId.{AnnId}
use Rattle.layer_model.specs.Annotations.{Annotations}
use Rattle.layer_model.specs.Classes.{rank}
use Rattle.content_keys.specs.Nodes.{Node, number}
use Rattle.content_keys.specs.Tables.{IsTable, MayAdd, IsAdded, values}
use Rattle.content_keys.specs.LayerContents.{content_of}
use Rattle.content_keys.specs.Places.{AreRight, place_of}
use Rattle.content_keys.proofs.IdLemmas.{same_rank}
use Rattle.content_keys.proofs.NodeLemmas.{number_same}
use Rattle.content_keys.proofs.TableLemmas.{read, value_at, values-push}
use Rattle.content_keys.proofs.MoveLemmas.{length_values}

pub no_node : Node ℕ
no_node = record { own = []; named = []; bag = [] }

front : (vs : List ℕ) (n i : ℕ) → i < length vs → get_or (vs ++ n ∷ []) i 0 ≡ get_or vs i 0
front vs n i h = grind (arith, common_steps)

longer : (ss : List (Node ℕ)) (s : Node ℕ) → length (ss ++ s ∷ []) ≡ length ss + 1
longer ss s = grind (arith, common_steps)

pub record StillThere (ss t : List (Node ℕ)) (c : ℕ) : Type 0 where
  pub within : c < length t
  pub same : read (values t) c ≡ read (values ss) c

pub still : (ss t : List (Node ℕ)) (s : Node ℕ) (i : ℕ) → IsAdded ss s t i → (c : ℕ) → c < length ss → StillThere ss t c
still ss t s i a c h =
    let P : List (Node ℕ) → Type 0 = λ l. StillThere ss l c in
    elim a.grows [
      | inl e ↦ subst P (sym e) record { within = h; same = refl }
      | inr e ↦ subst P (sym e) record {
        within = (let l : length (ss ++ s ∷ []) ≡ length ss + 1 = longer ss s in omega arith);
        same = ap (λ l. read l c) (values-push ss s) ∙ front (values ss) (number (read (values ss)) s) c (let l : length (values ss) ≡ length ss = length_values ss in omega arith);
      }
    ]

pub new_value : (ss t : List (Node ℕ)) (s : Node ℕ) (i : ℕ) → IsTable t → MayAdd ss s → IsAdded ss s t i → read (values t) i ≡ number (read (values ss)) s
new_value ss t s i b m a =
    value_at t b i no_node a.within ∙ ap (number (read (values t))) (a.here no_node)
    ∙ number_same (read (values t)) (read (values ss)) s (λ x n. (still ss t s i a x (m.below x n)).same)

-- what the map finds after an entry is put in
which : (old new : ℕ → Option ℕ) (n i : ℕ) → ((q : ℕ) → new q ≡ cond (is_at (nat_cmp n) q) (Some i) (old q)) → (q c : ℕ) → new q ≡ Some c → ((q ≡ n) × (c ≡ i)) ⊎ (old q ≡ Some c)
which old new n i up q c e =
    elim (is_at (nat_cmp n) q) as (λ b. is_at (nat_cmp n) q ≡ b → cond b (Some i) (old q) ≡ Some c → ((q ≡ n) × (c ≡ i)) ⊎ (old q ≡ Some c)) [
      | true ↦ λ t g. inl (sym (nat_cmp-IsAntisymmetric n q ((Equal-is (nat_cmp n q)).0 t)), sym (same_Some _ _ g))
      | false ↦ λ t g. inr g
    ] refl (sym (up q) ∙ e)

module _ (l : Annotations) (ss : List (Node ℕ)) (old : BTreeMap ℕ ℕ) (t : List (Node ℕ)) (s : Node ℕ) (i : ℕ) (x : AnnId) (right : AreRight l ss old) (b : IsTable t) (m : MayAdd ss s) (a : IsAdded ss s t i)
    (is : number (read (values ss)) s ≡ content_of l x) where
  here : (y : AnnId) (c : ℕ) → y ≡ x → c ≡ i → (c < length t) × (read (values t) c ≡ content_of l y)
  here y c p q =
      let P : ℕ → Type 0 = λ j. j < length t in
      (subst P (sym q) a.within, ap (read (values t)) q ∙ new_value ss t s i b m a ∙ is ∙ ap (content_of l) (sym p))

  kept : (y : AnnId) (c : ℕ) → place_of old y ≡ Some c → (c < length t) × (read (values t) c ≡ content_of l y)
  kept y c e =
      let r : (c < length ss) × (read (values ss) c ≡ content_of l y) = right y c e in
      let z : StillThere ss t c = still ss t s i a c r.0 in
      (z.within, z.same ∙ r.1)

  pub right_more : (new : BTreeMap ℕ ℕ) → ((q : ℕ) → get nat_cmp new q ≡ cond (is_at (nat_cmp (rank x)) q) (Some i) (get nat_cmp old q)) → AreRight l t new
  right_more new up y c e = elim (which (get nat_cmp old) (get nat_cmp new) (rank x) i up (rank y) c e) [
    | inl h ↦ here y c (same_rank y x h.0) h.1
    | inr h ↦ kept y c h
  ]
