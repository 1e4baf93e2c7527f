-- What holds of the first of some items, and of each with the next.
use Rattle.std.proofs.Common.{◌≡◌, ℕ, ◌+◌, ◌<◌, ◌≤◌, List, [], ◌∷◌, length, map, get_or, zero, suc, sym, subst, arith}
use Rattle.std.specs.Cmp.{IsTotalOrder, nat_cmp_is}
use Rattle.std.specs.declared.cmp.Ordering.{Ordering}
use Rattle.std.specs.declared.cmp.Ordering.TheVariants.{Less}
use Rattle.std.specs.List.{AllByRecursion}
use Rattle.std.specs.List.Sorted.{IsStrictlySortedBy}
use Rattle.std.specs.Ordering.{nat_cmp}
use Rattle.std.proofs.lemmas.Cmp.{nat_cmp_total, ranked}
use Rattle.unanimous_merge.specs.declared.item.ItemId.{ItemId}
use Rattle.curator_decisions.specs.declared.verdict.Verdict.{Verdict}
use Rattle.curator_decisions.specs.Decisions.{Ascend, item_rank}

-- each of the first items goes before the next one
abbrev pub AscendSo : {X : Type 0} → (X → X → Type 0) → ℕ → List X → Type 0
AscendSo {X} before n xs = (i : ℕ) (d : X) → i + 1 < n → before (get_or xs i d) (get_or xs (i + 1) d)

weaken : {K : Type 0} (R : K → K → Ordering) → IsTotalOrder R → (x y : K) (zs : List K) → R x y ≡ Less → AllByRecursion (λ z. R y z ≡ Less) zs → AllByRecursion (λ z. R x z ≡ Less) zs
weaken R o x y [] less all = tt
weaken R o x y (z ∷ zs) less all = (o.trans x y z less all.0, weaken R o x y zs less all.1)

sorted_next : {X K : Type 0} (R : K → K → Ordering) (f : X → K) (before : X → X → Type 0) → IsTotalOrder R → ((x y : X) → before x y → R (f x) (f y) ≡ Less) → (xs : List X) → ((i : ℕ) (d : X) → suc i < length xs → before (get_or xs i d) (get_or xs (suc i) d)) → IsStrictlySortedBy R (map f xs)
unfolding IsStrictlySortedBy
sorted_next R f before o less [] up = tt
sorted_next R f before o less (x ∷ []) up = (tt, tt)
sorted_next R f before o less (x ∷ y ∷ ys) up =
    let first : R (f x) (f y) ≡ Less = less x y (up 0 x (omega arith)) in
    let rest = sorted_next R f before o less (y ∷ ys) (λ i d within. up (suc i) d (omega arith)) in
    ((first, weaken R o (f x) (f y) (map f ys) first rest.0), rest)

-- what ascends from each to the next is sorted
sorted_so : {X K : Type 0} (R : K → K → Ordering) (f : X → K) (before : X → X → Type 0) → IsTotalOrder R → ((x y : X) → before x y → R (f x) (f y) ≡ Less) → (n : ℕ) (xs : List X) → length xs ≤ n → AscendSo before n xs → IsStrictlySortedBy R (map f xs)
sorted_so R f before o less n xs all up =
    sorted_next R f before o less xs (λ i d within. let e : i + 1 ≡ suc i = omega arith in subst (λ (k : ℕ). before (get_or xs i d) (get_or xs k d)) e (up i d (omega arith)))

-- items of lower rank than the next
pub items_sorted : (n : ℕ) (pairs : List (ItemId × Verdict)) → length pairs ≤ n → AscendSo (λ x y. item_rank x.0 < item_rank y.0) n pairs → Ascend pairs
items_sorted n pairs all up = sorted_so nat_cmp (λ one. item_rank one.0) (λ x y. item_rank x.0 < item_rank y.0) nat_cmp_total (λ x y less. sym (nat_cmp_is (item_rank x.0) (item_rank y.0) Less less)) n pairs all up

ranked_next : (pairs : List (ItemId × Verdict)) (i : ℕ) (d e : ItemId × Verdict) → Ascend pairs → suc i < length pairs → item_rank (get_or pairs i d).0 < item_rank (get_or pairs (suc i) e).0
unfolding IsStrictlySortedBy
ranked_next [] i d e up within = absurd (omega arith)
ranked_next (p ∷ []) i d e up within = absurd (omega arith)
ranked_next (p ∷ q ∷ ps) zero d e up within = ranked (item_rank p.0) (item_rank q.0) Less (sym up.0.0)
ranked_next (p ∷ q ∷ ps) (suc i) d e up within = ranked_next (q ∷ ps) i d e up.1 (omega arith)

-- items that ascend come before the next
pub ascend_next : (pairs : List (ItemId × Verdict)) (i : ℕ) (d e : ItemId × Verdict) → Ascend pairs → i + 1 < length pairs → item_rank (get_or pairs i d).0 < item_rank (get_or pairs (i + 1) e).0
ascend_next pairs i d e up within = let next : i + 1 ≡ suc i = omega arith in subst (λ (k : ℕ). item_rank (get_or pairs i d).0 < item_rank (get_or pairs k e).0) (sym next) (ranked_next pairs i d e up (omega (arith, within)))
