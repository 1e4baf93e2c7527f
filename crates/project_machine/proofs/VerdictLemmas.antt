-- Verdicts stay in the order of items.
use Rattle.std.proofs.Common.{◌≡◌, ℕ, ◌<◌, List, [], ◌∷◌, map, refl, sym, subst, arith}
use Rattle.std.specs.Ordering.{nat_cmp, match_ordering}
use Rattle.std.specs.Cmp.{ranked, nat_cmp_is}
use Rattle.std.specs.List.{AllByRecursion}
use Rattle.std.specs.List.Sorted.{IsStrictlySortedBy}
use Rattle.std.specs.declared.cmp.Ordering.TheVariants.{Less, Equal, Greater}
use Rattle.unanimous_merge.specs.declared.item.ItemId.{ItemId}
use Rattle.curator_decisions.specs.declared.verdict.Verdict.{Verdict}
use Rattle.curator_decisions.specs.Decisions.{Ascend, item_rank, with_verdict, without_verdict}
use Rattle.project_machine.proofs.NameLemmas.{filtered_part, part_sorted}

-- the places of items that have verdicts
abbrev places : List (ItemId × Verdict) → List ℕ
places decided = map (λ one. item_rank one.0) decided

less : (a b : ℕ) → a < b → nat_cmp a b ≡ Less
less a b l = sym (nat_cmp_is a b Less l)

is_less : (a b : ℕ) → nat_cmp a b ≡ Less → a < b
is_less a b e = ranked a b Less (sym e)

below_with : (low : ℕ) (decided : List (ItemId × Verdict)) (item : ItemId) (verdict : Verdict) → low < item_rank item → AllByRecursion (λ y. nat_cmp low y ≡ Less) (places decided)
    → AllByRecursion (λ y. nat_cmp low y ≡ Less) (places (with_verdict decided item verdict))
below_with low [] item verdict h all = (less low (item_rank item) h, tt)
below_with low (x ∷ xs) item verdict h all =
    elim (nat_cmp (item_rank item) (item_rank x.0)) as (λ r. AllByRecursion (λ y. nat_cmp low y ≡ Less) (places (match_ordering r ((item, verdict) ∷ x ∷ xs) ((item, verdict) ∷ xs) (x ∷ with_verdict xs item verdict)))) [
      | Less ↦ (less low (item_rank item) h, all)
      | Equal ↦ (less low (item_rank item) h, all.1)
      | Greater ↦ (all.0, below_with low xs item verdict h all.1)
    ]

lower : (low high : ℕ) (ns : List ℕ) → low < high → AllByRecursion (λ y. nat_cmp high y ≡ Less) ns → AllByRecursion (λ y. nat_cmp low y ≡ Less) ns
lower low high [] h all = tt
lower low high (n ∷ ns) h all = (less low n (let up : high < n = is_less high n all.0 in omega arith), lower low high ns h all.1)

-- with one verdict more they ascend
pub with_ascends : (decided : List (ItemId × Verdict)) (item : ItemId) (verdict : Verdict) → Ascend decided → Ascend (with_verdict decided item verdict)
unfolding IsStrictlySortedBy
with_ascends [] item verdict up = (tt, tt)
with_ascends (x ∷ xs) item verdict up =
    elim (nat_cmp (item_rank item) (item_rank x.0)) as (λ r. r ≡ nat_cmp (item_rank item) (item_rank x.0) → Ascend (match_ordering r ((item, verdict) ∷ x ∷ xs) ((item, verdict) ∷ xs) (x ∷ with_verdict xs item verdict))) [
      | Less ↦ λ w. ((sym w, lower (item_rank item) (item_rank x.0) (places xs) (ranked (item_rank item) (item_rank x.0) Less w) up.0), up)
      | Equal ↦ λ w. (let same : item_rank item ≡ item_rank x.0 = ranked (item_rank item) (item_rank x.0) Equal w in subst (λ k. AllByRecursion (λ y. nat_cmp k y ≡ Less) (places xs)) (sym same) up.0, up.1)
      | Greater ↦ λ w. (below_with (item_rank x.0) xs item verdict (ranked (item_rank item) (item_rank x.0) Greater w) up.0, with_ascends xs item verdict up.1)
    ] refl

-- and with one less
pub without_ascends : (decided : List (ItemId × Verdict)) (item : ItemId) → Ascend decided → Ascend (without_verdict decided item)
without_ascends decided item up = part_sorted nat_cmp _ _ (filtered_part (λ (one : ItemId × Verdict). item_rank one.0) _ decided) up

pub nothing_ascends : Ascend []
unfolding IsStrictlySortedBy
nothing_ascends = tt
