-- Sets of pairs of places: what is put and taken away, and the pairs of one place.
use Rattle.std.proofs.Common.{◌≡◌, ℕ, ◌+◌, ◌<◌, ◌≤◌, inl, inr, Bool, true, false, not, ◌&&◌, cond, refl, sym, ◌∙◌, ap, filter, arith}
use Rattle.std.specs.List.{list_any}
use Rattle.std.specs.Ordering.{nat_cmp, is_le, is_eq, ordering_then}
use Rattle.std.specs.declared.cmp.Ordering.{Ordering}
use Rattle.std.specs.declared.cmp.Ordering.TheVariants.{Less, Equal, Greater}
use Rattle.std.specs.declared.ops.Bound.TheVariants.{Included, Excluded}
use Rattle.std.specs.Cmp.{ranked}
use Rattle.std.specs.BTreeMap.{is_at}
use Rattle.std.specs.BTreeMap.Range.{range_contains}
use Rattle.std.specs.BTreeSet.{Updates, UpdatesBy}
use Rattle.std.proofs.lemmas.Bool.{and_from, cases_Bool}
use Rattle.std.proofs.lemmas.Map.Views.{any-filter_same}
use Rattle.layer_rules.proofs.LawLemmas.{same_number}
use Rattle.layer_core.specs.Indexes.{has_pair, KeepsOthers, KeepsPairs, pair_cmp, Pairs}

pub not_true : false ≡ true → ⊥
not_true e = cc

pub first_true : (a b : Bool) → (a && b) ≡ true → a ≡ true
first_true true b e = refl
first_true false b e = absurd (not_true e)

pub second_true : (a b : Bool) → (a && b) ≡ true → b ≡ true
second_true true b e = e
second_true false b e = absurd (not_true e)

pub not_so : (a : Bool) → not a ≡ true → a ≡ false
not_so true e = absurd (not_true e)
not_so false e = refl

-- ---- pairs that compare equal

pub first_equal : (x y : Ordering) → is_eq (ordering_then x y) ≡ true → is_eq x ≡ true
first_equal Less y e = absurd (not_true e)
first_equal Equal y e = refl
first_equal Greater y e = absurd (not_true e)

pub second_equal : (x y : Ordering) → is_eq (ordering_then x y) ≡ true → is_eq y ≡ true
second_equal Less y e = absurd (not_true e)
second_equal Equal y e = e
second_equal Greater y e = absurd (not_true e)

-- ---- a pair that is put, and one that is taken away

kept_by_either : (test before : Bool) → before ≡ true → cond test true before ≡ true
kept_by_either true before e = refl
kept_by_either false before e = e

kept_by_other : (test before : Bool) → test ≡ false → before ≡ true → cond test false before ≡ true
kept_by_other true before is e = absurd (not_true (sym is))
kept_by_other false before is e = e

pub put_keeps : (before after : Pairs) (named namer : ℕ) → Updates pair_cmp before after (named, namer) true → KeepsPairs before after
put_keeps before after named namer updates a b there =
    updates.0 (a, b) ∙ kept_by_either (is_at (pair_cmp (named, namer)) (a, b)) (has_pair before a b) there

pub take_keeps : (before after : Pairs) (named gone : ℕ) → UpdatesBy pair_cmp (pair_cmp (named, gone)) before after false → KeepsOthers gone before after
take_keeps before after named gone updates a b other there =
    updates.0 (a, b) ∙ kept_by_other (is_at (pair_cmp (named, gone)) (a, b)) (has_pair before a b)
    (elim (cases_Bool (is_at (pair_cmp (named, gone)) (a, b))) [
      | inl same ↦ absurd (other (same_number gone b (second_equal (nat_cmp named a) (nat_cmp gone b) same)))
      | inr differs ↦ differs
    ]) there

-- ---- the pairs of one ID

zero_le : (n : ℕ) → is_le (nat_cmp 0 n) ≡ true
zero_le n =
    elim (nat_cmp 0 n) as (λ r. r ≡ nat_cmp 0 n → is_le r ≡ true) [
      | Less ↦ λ _. refl
      | Equal ↦ λ _. refl
      | Greater ↦ λ is. absurd (let above = ranked 0 n Greater is in omega arith)
    ] refl

from_place : (a b n : ℕ) → is_le (ordering_then (nat_cmp a b) (nat_cmp 0 n)) ≡ true → a ≤ b
from_place a b n e =
    elim (nat_cmp a b) as (λ r. r ≡ nat_cmp a b → is_le (ordering_then r (nat_cmp 0 n)) ≡ true → a ≤ b) [
      | Less ↦ λ is _. let below = ranked a b Less is in omega arith
      | Equal ↦ λ is _. let same = ranked a b Equal is in omega arith
      | Greater ↦ λ _ f. absurd (not_true f)
    ] refl e

upto_place : (a b n : ℕ) → is_le (ordering_then (nat_cmp a b) (nat_cmp 0 n)) ≡ false → b < a
upto_place a b n e =
    elim (nat_cmp a b) as (λ r. r ≡ nat_cmp a b → is_le (ordering_then r (nat_cmp 0 n)) ≡ false → b < a) [
      | Less ↦ λ _ f. absurd (not_true (sym f))
      | Equal ↦ λ _ f. absurd (not_true (sym f ∙ zero_le n))
      | Greater ↦ λ is _. let above = ranked a b Greater is in omega arith
    ] refl e

-- a pair lies between the first of a place and the first of the next
abbrev pub in_range : ℕ → ℕ × ℕ → Bool
in_range place pair = range_contains pair_cmp (Included (place, 0)) (Excluded (place + 1, 0)) pair

-- then it is one of the place
pub of_place : (place : ℕ) (pair : ℕ × ℕ) → in_range place pair ≡ true → pair.0 ≡ place
of_place place pair e =
    let low = from_place place pair.0 pair.1 (first_true _ _ e) in
    let high = upto_place (place + 1) pair.0 pair.1 (not_so _ (second_true (is_le (pair_cmp (place, 0) pair)) _ e)) in
    omega arith

-- and each pair of the place lies there
all_of_place : (place : ℕ) (pair : ℕ × ℕ) → place ≡ pair.0 → in_range place pair ≡ true
all_of_place place pair is =
    and_from (is_le (pair_cmp (place, 0) pair)) (not (is_le (pair_cmp (place + 1, 0) pair))) (low (nat_cmp place pair.0) refl) (ap not (high (nat_cmp (place + 1) pair.0) refl))
  where
    low : (r : Ordering) → r ≡ nat_cmp place pair.0 → is_le (ordering_then r (nat_cmp 0 pair.1)) ≡ true
    low Less _ = refl
    low Equal _ = zero_le pair.1
    low Greater o = absurd (let above = ranked place pair.0 Greater o in omega arith)

    high : (r : Ordering) → r ≡ nat_cmp (place + 1) pair.0 → is_le (ordering_then r (nat_cmp 0 pair.1)) ≡ false
    high Less o = absurd (let below = ranked (place + 1) pair.0 Less o in omega arith)
    high Equal o = absurd (let same = ranked (place + 1) pair.0 Equal o in omega arith)
    high Greater _ = refl

pub all_found : (pairs : Pairs) (place namer : ℕ) → has_pair pairs place namer ≡ true → list_any (is_at (pair_cmp (place, namer))) (filter (in_range place) pairs.keys) ≡ true
all_found pairs place namer there =
    any-filter_same (is_at (pair_cmp (place, namer))) (in_range place) true
    (λ pair same. all_of_place place pair (sym (same_number place pair.0 (first_equal (nat_cmp place pair.0) (nat_cmp namer pair.1) same)))) pairs.keys
    ∙ there
