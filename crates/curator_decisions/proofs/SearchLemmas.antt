-- What stands where a search by halves among decisions ends.
use Rattle.std.proofs.Common.{◌≡◌, ℕ, zero, suc, ◌+◌, ◌<◌, ◌≤◌, true, false, nat_lt, ◌||◌, ◌&&◌, drop, drop-cons, Bool, cond, is_some, List, [], ◌∷◌, map, length, get_or, refl, sym, ap, ◌∙◌, subst, arith, inl, inr, Some, None}
use Rattle.std.specs.List.{find, list_all, list_any}
use Rattle.std.specs.List.Sorted.{IsNonDecreasingBy}
use Rattle.std.proofs.lemmas.Bool.{cases_lt}
use Rattle.std.proofs.lemmas.Bool.Decides.{nat_tests}
use Rattle.std.proofs.lemmas.List.{get_or-map, length-map}
use Rattle.std.proofs.lemmas.Map.Keys.{below_from_sorted}
use Rattle.unanimous_merge.specs.declared.item.ItemId.{ItemId}
use Rattle.curator_decisions.specs.declared.verdict.Verdict.{Verdict}
use Rattle.curator_decisions.specs.Decisions.{Ascend, Decided, item_rank, verdict_on}
use Rattle.curator_decisions.specs.Placing.{IsEndBefore}
use Rattle.curator_decisions.proofs.DecidedLemmas.{AreBefore}
use Rattle.curator_decisions.proofs.DecidedVerdicts.{verdict_here, verdict_past}

is_below : (a b : ℕ) → nat_lt a b ≡ true → a < b
is_below a b h = grind (arith, nat_tests)

not_below : (a b : ℕ) → nat_lt a b ≡ false → b ≤ a
not_below a b h = grind (arith, nat_tests)

abbrev rank_of : ItemId × Verdict → ℕ
rank_of one = item_rank one.0

-- decisions ascend strictly
pub rising : (xs : Decided) → Ascend xs → (i j : ℕ) (d : ItemId × Verdict) → i < j → j < length xs → item_rank (get_or xs i d).0 < item_rank (get_or xs j d).0
rising xs h i j d less l =
    let n : length (map rank_of xs) ≡ length xs = length-map xs rank_of in
    let p : get_or (map rank_of xs) i (rank_of d) ≡ item_rank (get_or xs i d).0 = get_or-map rank_of xs i d (rank_of d) (omega arith) in
    let q : get_or (map rank_of xs) j (rank_of d) ≡ item_rank (get_or xs j d).0 = get_or-map rank_of xs j d (rank_of d) l in
    let r : get_or (map rank_of xs) i (rank_of d) < get_or (map rank_of xs) j (rank_of d) = below_from_sorted (map rank_of xs) i j (rank_of d) h less (omega arith) in
    omega (arith, p, q, r)

pub rise : (xs : Decided) → Ascend xs → IsNonDecreasingBy (λ one. item_rank one.0) xs
rise xs h i j d le l = elim (cases_lt i j) [
  | inl less ↦ let r : item_rank (get_or xs i d).0 < item_rank (get_or xs j d).0 = rising xs h i j d less l in omega arith
  | inr more ↦ let same : i ≡ j = omega arith in subst (λ k. item_rank (get_or xs i d).0 ≤ item_rank (get_or xs k d).0) same (let r : item_rank (get_or xs i d).0 ≤ item_rank (get_or xs i d).0 = omega arith in r)
]

pub end_is_before : (xs : Decided) (item : ItemId) (at : ℕ) → at ≤ length xs → IsEndBefore xs (item_rank item) at → AreBefore xs at item
end_is_before xs item at within h k less d = is_below (item_rank (get_or xs k d).0) (item_rank item) (h.0 k d (omega arith) less)

pub verdict_at : (xs : Decided) (i : ℕ) (item : ItemId) → AreBefore xs i item → i < length xs → (d : ItemId × Verdict) → item_rank (get_or xs i d).0 ≡ item_rank item → verdict_on item xs ≡ Some (get_or xs i d).1
verdict_at [] i item before h d e = absurd (omega arith)
verdict_at (x ∷ xs) zero item before h d e = verdict_here item x xs e
verdict_at (x ∷ xs) (suc i) item before h d e =
    let less : item_rank x.0 < item_rank item = before 0 (omega arith) x in
    verdict_past item x xs (λ s. omega (arith, s, less)) ∙ verdict_at xs i item (λ k l c. before (suc k) (omega arith) c) (omega arith) d e

no_verdict : (xs : Decided) (item : ItemId) → ((k : ℕ) (d : ItemId × Verdict) → k < length xs → item_rank (get_or xs k d).0 ≡ item_rank item → ⊥) → verdict_on item xs ≡ None
no_verdict [] item other = refl
no_verdict (x ∷ xs) item other = verdict_past item x xs (other 0 x (omega arith)) ∙ no_verdict xs item (λ k d l. other (suc k) d (omega arith))

-- the item of the place does not come first
pub above_at : (xs : Decided) (item : ItemId) (at : ℕ) → IsEndBefore xs (item_rank item) at → at < length xs → (d : ItemId × Verdict) → (item_rank (get_or xs at d).0 ≡ item_rank item → ⊥) → item_rank item < item_rank (get_or xs at d).0
above_at xs item at h l d other =
    let up : item_rank item ≤ item_rank (get_or xs at d).0 = not_below (item_rank (get_or xs at d).0) (item_rank item) (h.1 at d (omega arith) l) in
    elim (cases_lt (item_rank item) (item_rank (get_or xs at d).0)) [
      | inl less ↦ less
      | inr more ↦ absurd (other (omega arith))
    ]

pub verdict_none : (xs : Decided) (item : ItemId) (at : ℕ) → Ascend xs → IsEndBefore xs (item_rank item) at → (at < length xs → (d : ItemId × Verdict) → item_rank (get_or xs at d).0 ≡ item_rank item → ⊥) → verdict_on item xs ≡ None
verdict_none xs item at ascend h other = no_verdict xs item apart
  where
    apart : (k : ℕ) (d : ItemId × Verdict) → k < length xs → item_rank (get_or xs k d).0 ≡ item_rank item → ⊥
    apart k d l e = elim (cases_lt k at) [
      | inl less ↦ let m : item_rank (get_or xs k d).0 < item_rank item = is_below (item_rank (get_or xs k d).0) (item_rank item) (h.0 k d (omega arith) less) in omega (arith, m, e)
      | inr le ↦
          let low : item_rank (get_or xs at d).0 ≤ item_rank (get_or xs k d).0 = rise xs ascend at k d le l in
          let up : item_rank item < item_rank (get_or xs at d).0 = above_at xs item at h (omega arith) d (other (omega arith) d) in
          omega (arith, low, up, e)
    ]

-- ---- items among others

pub some_found : {X : Type 0} (p : X → Bool) (xs : List X) → is_some (find p xs) ≡ list_any p xs
some_found p [] = refl
some_found p (x ∷ xs) = elim (p x) as (λ b. is_some (cond b (Some x) (find p xs)) ≡ (b || list_any p xs)) [
  | true ↦ refl
  | false ↦ some_found p xs
]

-- ---- a list that is gone through

module _ {X : Type 0} (p : X → Bool) (xs : List X) (i : ℕ) (x : X) (h : i < length xs) (at : x ≡ get_or xs i x) where
  next : drop i xs ≡ x ∷ drop (i + 1) xs
  next = let n : suc i ≡ i + 1 = omega arith in drop-cons xs i x h ∙ (λ j. sym at j ∷ drop (n j) xs)

  pub all_next : p x ≡ true → list_all p (drop i xs) ≡ list_all p (drop (i + 1) xs)
  all_next e = ap (list_all p) next ∙ ap (λ b. b && list_all p (drop (i + 1) xs)) e

  pub all_stops : p x ≡ false → list_all p (drop i xs) ≡ false
  all_stops e = ap (list_all p) next ∙ ap (λ b. b && list_all p (drop (i + 1) xs)) e
