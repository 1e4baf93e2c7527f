-- What stands behind an ID in a list of IDs that ascend, where a search by halves ends.
use Rattle.std.proofs.Common.{◌≡◌, ℕ, zero, suc, ◌+◌, ◌<◌, ◌≤◌, true, false, nat_lt, cond, eqb, List, [], ◌∷◌, map, length, get_or, refl, sym, ap, ◌∙◌, subst, arith, inl, inr, Option, Some, None}
use Rattle.std.specs.List.Sorted.{IsNonDecreasingBy, IsPartitionPoint}
use Rattle.std.proofs.lemmas.Bool.{cases_lt}
use Rattle.std.proofs.lemmas.Bool.Decides.{eqb_tells, nat_tests}
use Rattle.std.proofs.lemmas.List.{get_or-map, length-map}
use Rattle.mark_base.specs.declared.ann_id.AnnId.{AnnId}
use Rattle.layer_model.specs.Annotations.{Annotations}
use Rattle.layer_model.specs.Classes.{rank}
use Rattle.content_keys.specs.declared.counterparts.Found.{Found}
use Rattle.content_keys.specs.declared.placed_layer.Placed.{Placed}
use Rattle.content_keys.specs.Counterparts.{behind, counterpart_among}
use Rattle.content_keys.specs.Founds.{IsEndBefore, pair_of}
use Rattle.content_keys.specs.LayerContents.{contents_of, ids_of}
use Rattle.content_keys.specs.Places.{contents_at}
use Rattle.content_keys.proofs.LawLemmas.{ids_rise}

-- ---- lists ascend where their IDs do

pub rises_by_map : {X : Type 0} (f : X → AnnId) (xs : List X) → IsNonDecreasingBy rank (map f xs) → IsNonDecreasingBy (λ x. rank (f x)) xs
rises_by_map f xs h i j d le l =
    let n : length (map f xs) ≡ length xs = length-map xs f in
    let p : get_or (map f xs) i (f d) ≡ f (get_or xs i d) = get_or-map f xs i d (f d) (omega arith) in
    let q : get_or (map f xs) j (f d) ≡ f (get_or xs j d) = get_or-map f xs j d (f d) l in
    let r : rank (get_or (map f xs) i (f d)) ≤ rank (get_or (map f xs) j (f d)) = h i j (f d) le (omega arith) in
    omega (arith, r, ap rank p, ap rank q)

abbrev pub first_of : {X : Type 0} → List (AnnId × X) → List AnnId
first_of xs = map (λ entry. entry.0) xs

placed_ids : (contents : List ℕ) (placed : List Placed) → first_of (contents_at contents placed) ≡ map (λ p. p.id) placed
placed_ids contents [] = refl
placed_ids contents (p ∷ ps) = ap (λ ids. p.id ∷ ids) (placed_ids contents ps)

with_ids : (f : AnnId → ℕ) (ids : List AnnId) → first_of (map (λ id. (id, f id)) ids) ≡ ids
with_ids f [] = refl
with_ids f (id ∷ ids) = ap (λ xs. id ∷ xs) (with_ids f ids)

-- the places of a layer's annotations ascend
pub placed_rise : (l : Annotations) (contents : List ℕ) (placed : List Placed) → contents_at contents placed ≡ contents_of l → IsNonDecreasingBy (λ p. rank p.id) placed
placed_rise l contents placed e =
    let ids : map (λ p. p.id) placed ≡ ids_of l = sym (placed_ids contents placed) ∙ ap first_of e ∙ with_ids _ (ids_of l) in
    rises_by_map (λ p. p.id) placed (subst (IsNonDecreasingBy rank) (sym ids) (ids_rise l))

found_ids : (found : List Found) → first_of (map pair_of found) ≡ map (λ one. one.id) found
found_ids [] = refl
found_ids (one ∷ others) = ap (λ ids. one.id ∷ ids) (found_ids others)

pub same_ids : (g : Placed → Option AnnId) (placed : List Placed) → first_of (map (λ p. (p.id, g p)) placed) ≡ map (λ p. p.id) placed
same_ids g [] = refl
same_ids g (p ∷ ps) = ap (λ ids. p.id ∷ ids) (same_ids g ps)

-- what was found ascends where the places do
pub found_rise : (g : Placed → Option AnnId) (placed : List Placed) (found : List Found) → map pair_of found ≡ map (λ p. (p.id, g p)) placed → IsNonDecreasingBy (λ p. rank p.id) placed → IsNonDecreasingBy (λ one. rank one.id) found
found_rise g placed found e rise =
    let ids : map (λ p. p.id) placed ≡ map (λ one. one.id) found = sym (same_ids g placed) ∙ ap first_of (sym e) ∙ found_ids found in
    rises_by_map (λ one. one.id) found (subst (IsNonDecreasingBy rank) ids (up (λ p. p.id) placed rise))
  where
    up : (f : Placed → AnnId) (ps : List Placed) → IsNonDecreasingBy (λ p. rank (f p)) ps → IsNonDecreasingBy rank (map f ps)
    up f [] h i j d le l = absurd (omega arith)
    up f (p ∷ ps) h i j d le l =
        let n : length (map f (p ∷ ps)) ≡ length (p ∷ ps) = length-map (p ∷ ps) f in
        let a : get_or (map f (p ∷ ps)) i d ≡ f (get_or (p ∷ ps) i p) = get_or-map f (p ∷ ps) i p d (omega arith) in
        let b : get_or (map f (p ∷ ps)) j d ≡ f (get_or (p ∷ ps) j p) = get_or-map f (p ∷ ps) j p d (omega arith) in
        let r : rank (f (get_or (p ∷ ps) i p)) ≤ rank (f (get_or (p ∷ ps) j p)) = h i j p le (omega arith) in
        omega (arith, r, ap rank a, ap rank b)

-- ---- where a search ends

skip : (x : Found) (xs : List Found) (id : AnnId) → (rank x.id ≡ rank id → ⊥) → behind id (map pair_of (x ∷ xs)) ≡ behind id (map pair_of xs)
skip x xs id other = elim (eqb_tells (rank x.id) (rank id)) [
  | inl p ↦ absurd (other p.1)
  | inr p ↦ ap (λ b. cond b (Some x.there) (behind id (map pair_of xs))) p.0
]

later : (x : Found) (xs : List Found) (id : AnnId) (at : ℕ) → IsEndBefore (x ∷ xs) id (suc at) → IsEndBefore xs id at
later x xs id at h = (λ k d le l. h.0 (suc k) d (omega arith) (omega arith), λ k d le l. h.1 (suc k) d (omega arith) (omega arith))

is_below : (a b : ℕ) → nat_lt a b ≡ true → a < b
is_below a b h = grind (arith, nat_tests)

not_below : (a b : ℕ) → nat_lt a b ≡ false → b ≤ a
not_below a b h = grind (arith, nat_tests)

-- at the end of the search stands what stands behind the ID
pub ends_here : (xs : List Found) (id : AnnId) (at : ℕ) → IsEndBefore xs id at → at < length xs → (d : Found) → rank (get_or xs at d).id ≡ rank id → behind id (map pair_of xs) ≡ Some (get_or xs at d).there
ends_here [] id at h l d e = absurd (omega arith)
ends_here (x ∷ xs) id zero h l d e = elim (eqb_tells (rank x.id) (rank id)) [
  | inl p ↦ ap (λ b. cond b (Some x.there) (behind id (map pair_of xs))) p.0
  | inr p ↦ absurd (p.1 e)
]
ends_here (x ∷ xs) id (suc at) h l d e =
    let less : rank x.id < rank id = is_below (rank x.id) (rank id) (h.0 0 x (omega arith) (omega arith)) in
    skip x xs id (λ s. omega (arith, less, s)) ∙ ends_here xs id at (later x xs id at h) (omega arith) d e

all_above : (xs : List Found) (id : AnnId) → ((k : ℕ) (d : Found) → k < length xs → rank (get_or xs k d).id ≡ rank id → ⊥) → behind id (map pair_of xs) ≡ None
all_above [] id h = refl
all_above (x ∷ xs) id h = skip x xs id (h 0 x (omega arith)) ∙ all_above xs id (λ k d l. h (suc k) d (omega arith))

-- where another stands there, nothing stands behind the ID
pub ends_elsewhere : (xs : List Found) (id : AnnId) (at : ℕ) → IsNonDecreasingBy (λ one. rank one.id) xs → IsEndBefore xs id at → (at < length xs → (d : Found) → rank (get_or xs at d).id ≡ rank id → ⊥) → behind id (map pair_of xs) ≡ None
ends_elsewhere xs id at rise h other = all_above xs id apart
  where
    apart : (k : ℕ) (d : Found) → k < length xs → rank (get_or xs k d).id ≡ rank id → ⊥
    apart k d l e = elim (cases_lt k at) [
      | inl less ↦ let m : rank (get_or xs k d).id < rank id = is_below (rank (get_or xs k d).id) (rank id) (h.0 k d (omega arith) less) in omega (arith, m, e)
      | inr le ↦
          let low : rank (get_or xs at d).id ≤ rank (get_or xs k d).id = rise at k d le l in
          let up : rank id ≤ rank (get_or xs at d).id = not_below (rank (get_or xs at d).id) (rank id) (h.1 at d (omega arith) (omega arith)) in
          other (omega arith) d (omega (arith, low, up, e))
    ]
