-- The lines of a letter, from annotation to annotation.
use Rattle.std.proofs.Common.{◌≡◌, ℕ, List, [], ◌∷◌, ◌++◌, sym, ◌∙◌, ap, subst, append_assoc, Some}
use Rattle.std.specs.List.{flat_map, AllByRecursion}
use Rattle.std.specs.Ordering.{nat_cmp, eq_by_cmp}
use Rattle.std.specs.FinMap as finite
use Rattle.std.specs.FinMap.{get-entries}
use Rattle.std.specs.FinMap.Entries.{find}
use Rattle.std.proofs.Common.{true, false, cond, None}

-- one line more
pub lines_on : {V : Type 0} (line : ℕ → V → List ℕ) (out made whole : List ℕ) (rest later : List (ℕ × V)) (n : ℕ) (v : V) → rest ≡ (n, v) ∷ later → made ≡ out ++ line n v
    → out ++ flat_map (λ (e : ℕ × V). line e.0 e.1) rest ≡ whole → made ++ flat_map (λ (e : ℕ × V). line e.0 e.1) later ≡ whole
lines_on line out made whole rest later n v is now before =
    ap (λ o. o ++ flat_map (λ e. line e.0 e.1) later) now ∙ append_assoc out (line n v) (flat_map (λ e. line e.0 e.1) later) ∙ sym (ap (λ r. out ++ flat_map (λ e. line e.0 e.1) r) is) ∙ before

pub rest_can : {V : Type 0} (P : V → Type 0) (rest later : List (ℕ × V)) (n : ℕ) (v : V) → rest ≡ (n, v) ∷ later → AllByRecursion (λ (e : ℕ × V). P e.1) rest → AllByRecursion (λ (e : ℕ × V). P e.1) later
rest_can P rest later n v is all = (subst (AllByRecursion (λ e. P e.1)) is all).1

pub told_on : {V : Type 0} (P : V → Type 0) (Whole : Type 0) (rest later : List (ℕ × V)) (n : ℕ) (v : V) → rest ≡ (n, v) ∷ later → P v → (AllByRecursion (λ (e : ℕ × V). P e.1) rest → Whole) → AllByRecursion (λ (e : ℕ × V). P e.1) later → Whole
told_on P Whole rest later n v is here before all = before (subst (AllByRecursion (λ e. P e.1)) (sym is) (here, all))

none_some : {X : Type 0} {x : X} → None ≡ Some x → ⊥
none_some e = cc

some_same : {X : Type 0} {x y : X} → Some x ≡ Some y → x ≡ y
some_same e = cc

found_holds : {V : Type 0} (P : V → Type 0) (es : List (ℕ × V)) (n : ℕ) (v : V) → AllByRecursion (λ (e : ℕ × V). P e.1) es → find nat_cmp n es ≡ Some v → P v
found_holds P [] n v all is = absurd (none_some is)
found_holds P (e ∷ es) n v all is =
    elim (eq_by_cmp nat_cmp n e.0) as (λ b. cond b (Some e.1) (find nat_cmp n es) ≡ Some v → P v) [ true ↦ λ here. subst P (some_same here) all.0 | false ↦ λ later. found_holds P es n v all.1 later ] is

-- what holds of each entry of a map holds of all that it has
pub of_all : {V : Type 0} (P : V → Type 0) (m : finite.FinMap nat_cmp V) → AllByRecursion (λ (e : ℕ × V). P e.1) (finite.entries m) → (n : ℕ) (v : V) → finite.get m n ≡ Some v → P v
of_all P m all n v is = found_holds P (finite.entries m) n v all (sym (get-entries m n) ∙ is)
