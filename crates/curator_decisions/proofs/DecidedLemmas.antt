-- Decisions with a verdict more or less.
use Rattle.std.proofs.Common.{◌≡◌, ℕ, zero, suc, ◌<◌, ◌≤◌, List, [], ◌∷◌, map, length, get_or, set, eqb, refl, sym, ap, ◌∙◌, subst, arith, not}
use Rattle.std.specs.Ordering.{nat_cmp, match_ordering}
use Rattle.std.specs.Cmp.{nat_cmp_is, ranked}
use Rattle.std.specs.List.{insert, AllByRecursion}
use Rattle.std.specs.List.Sorted.{IsStrictlySortedBy}
use Rattle.std.specs.declared.cmp.Ordering.{Ordering}
use Rattle.std.specs.declared.cmp.Ordering.TheVariants.{Less, Equal, Greater}
use Rattle.std.proofs.lemmas.List.Kept.{IsStrictlySortedBy-filter}
use Rattle.unanimous_merge.specs.declared.item.ItemId.{ItemId}
use Rattle.unanimous_merge.proofs.ListLemmas.{any_default, filter_map_is}
use Rattle.curator_decisions.specs.declared.verdict.Verdict.{Verdict}
use Rattle.curator_decisions.specs.Decisions.{Ascend, Decided, item_rank, with_verdict, without_verdict}

less : (a b : ℕ) → a < b → nat_cmp a b ≡ Less
less a b l = sym (nat_cmp_is a b Less l)

is_less : (a b : ℕ) → nat_cmp a b ≡ Less → a < b
is_less a b e = ranked a b Less (sym e)

equal : (a b : ℕ) → a ≡ b → nat_cmp a b ≡ Equal
equal a b e = sym (nat_cmp_is a b Equal e)

is_equal : (a b : ℕ) → nat_cmp a b ≡ Equal → a ≡ b
is_equal a b e = ranked a b Equal (sym e)

greater : (a b : ℕ) → b < a → nat_cmp a b ≡ Greater
greater a b l = sym (nat_cmp_is a b Greater l)

is_greater : (a b : ℕ) → nat_cmp a b ≡ Greater → b < a
is_greater a b e = ranked a b Greater (sym e)

-- the items before an index come before one
abbrev pub AreBefore : Decided → ℕ → ItemId → Type 0
AreBefore xs i item = (k : ℕ) → k < i → (d : ItemId × Verdict) → item_rank (get_or xs k d).0 < item_rank item

step : (x : ItemId × Verdict) (xs : Decided) (item : ItemId) (v : Verdict) (o : Ordering) → nat_cmp (item_rank item) (item_rank x.0) ≡ o → with_verdict (x ∷ xs) item v ≡ match_ordering o ((item, v) ∷ x ∷ xs) ((item, v) ∷ xs) (x ∷ with_verdict xs item v)
step x xs item v o e = ap (λ r. match_ordering r ((item, v) ∷ x ∷ xs) ((item, v) ∷ xs) (x ∷ with_verdict xs item v)) e

pub set_at : (xs : Decided) (i : ℕ) (item : ItemId) (v : Verdict) → AreBefore xs i item → i < length xs → ((d : ItemId × Verdict) → item_rank (get_or xs i d).0 ≡ item_rank item) → with_verdict xs item v ≡ set xs i (item, v)
set_at [] i item v before h here = absurd (omega arith)
set_at (x ∷ xs) zero item v before h here = step x xs item v Equal (equal (item_rank item) (item_rank x.0) (sym (here x)))
set_at (x ∷ xs) (suc i) item v before h here =
    step x xs item v Greater (greater (item_rank item) (item_rank x.0) (before 0 (omega arith) x)) ∙ ap (λ ys. x ∷ ys) (set_at xs i item v (λ k l d. before (suc k) (omega arith) d) (omega arith) here)

pub insert_at : (xs : Decided) (i : ℕ) (item : ItemId) (v : Verdict) → AreBefore xs i item → i ≤ length xs → (i < length xs → (d : ItemId × Verdict) → item_rank item < item_rank (get_or xs i d).0) → with_verdict xs item v ≡ insert xs i (item, v)
insert_at [] zero item v before h here = refl
insert_at [] (suc i) item v before h here = absurd (omega arith)
insert_at (x ∷ xs) zero item v before h here = step x xs item v Less (less (item_rank item) (item_rank x.0) (here (omega arith) x))
insert_at (x ∷ xs) (suc i) item v before h here =
    step x xs item v Greater (greater (item_rank item) (item_rank x.0) (before 0 (omega arith) x)) ∙ ap (λ ys. x ∷ ys) (insert_at xs i item v (λ k l d. before (suc k) (omega arith) d) (omega arith) (λ l d. here (omega arith) d))

-- ---- the items ascend

all_from : (a b : ℕ) → a < b → (ks : List ℕ) → AllByRecursion (λ y. nat_cmp b y ≡ Less) ks → AllByRecursion (λ y. nat_cmp a y ≡ Less) ks
all_from a b l [] h = tt
all_from a b l (k ∷ ks) h = (let m : b < k = is_less b k h.0 in less a k (omega arith), all_from a b l ks h.1)

abbrev ranks : Decided → List ℕ
ranks xs = map (λ one. item_rank one.0) xs

below_with : (a : ℕ) (xs : Decided) (item : ItemId) (v : Verdict) → nat_cmp a (item_rank item) ≡ Less → AllByRecursion (λ y. nat_cmp a y ≡ Less) (ranks xs) → AllByRecursion (λ y. nat_cmp a y ≡ Less) (ranks (with_verdict xs item v))
below_with a [] item v l h = (l, tt)
below_with a (x ∷ xs) item v l h =
    elim (nat_cmp (item_rank item) (item_rank x.0)) as (λ o. AllByRecursion (λ y. nat_cmp a y ≡ Less) (ranks (match_ordering o ((item, v) ∷ x ∷ xs) ((item, v) ∷ xs) (x ∷ with_verdict xs item v)))) [
      | Less ↦ (l, h)
      | Equal ↦ (l, h.1)
      | Greater ↦ (h.0, below_with a xs item v l h.1)
    ]

pub ascend_with : (xs : Decided) (item : ItemId) (v : Verdict) → Ascend xs → Ascend (with_verdict xs item v)
unfolding IsStrictlySortedBy
ascend_with [] item v h = (tt, tt)
ascend_with (x ∷ xs) item v h =
    elim (nat_cmp (item_rank item) (item_rank x.0)) as (λ o. nat_cmp (item_rank item) (item_rank x.0) ≡ o → IsStrictlySortedBy nat_cmp (ranks (match_ordering o ((item, v) ∷ x ∷ xs) ((item, v) ∷ xs) (x ∷ with_verdict xs item v)))) [
      | Less ↦ λ e. ((e, all_from (item_rank item) (item_rank x.0) (is_less (item_rank item) (item_rank x.0) e) (ranks xs) h.0), h)
      | Equal ↦ λ e. (subst (λ k. AllByRecursion (λ y. nat_cmp k y ≡ Less) (ranks xs)) (sym (is_equal (item_rank item) (item_rank x.0) e)) h.0, h.1)
      | Greater ↦ λ e. (below_with (item_rank x.0) xs item v (less (item_rank x.0) (item_rank item) (is_greater (item_rank item) (item_rank x.0) e)) h.0, ascend_with xs item v h.1)
    ] refl

pub ascend_without : (xs : Decided) (item : ItemId) → Ascend xs → Ascend (without_verdict xs item)
ascend_without xs item h =
    subst (IsStrictlySortedBy nat_cmp) (filter_map_is (λ k. not (eqb k (item_rank item))) (λ (one : ItemId × Verdict). item_rank one.0) xs)
    (IsStrictlySortedBy-filter nat_cmp (λ k. not (eqb k (item_rank item))) (ranks xs) h)

-- the rank at an index
pub rank_there : (xs : Decided) (i : ℕ) (one : ItemId × Verdict) → i < length xs → one ≡ get_or xs i one → (d : ItemId × Verdict) → item_rank (get_or xs i d).0 ≡ item_rank one.0
rank_there xs i one h at d = ap (λ (x : ItemId × Verdict). item_rank x.0) (any_default xs i d one h ∙ sym at)
