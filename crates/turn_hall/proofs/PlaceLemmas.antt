-- Places that ascend, and how often each stands among them.
use Rattle.std.proofs.Common.{◌≡◌, ◌≢◌, ℕ, zero, suc, ◌+◌, ◌-◌, ◌<◌, ◌≤◌, List, [], ◌∷◌, ◌++◌, length, refl, ap, ◌∙◌, subst, arith, Bool, true, false, nat_le, cond}
use Rattle.std.specs.Prelude.{slice_index}
use Rattle.std.specs.List.{All, range_with_len}
use Rattle.std.specs.List.Sorted.{IsStrictlyIncreasing}
use Rattle.std.proofs.lemmas.Bool.Decides.{nat_tests}
use Rattle.std.proofs.lemmas.List.Elements.{All-nil, All-cons}
use mathlib.Core.Logic.{dite}
use native.Mathlib.Decide.{ℕ_discrete}
use Rattle.project_machine.specs.Requests.{Happened}
use Rattle.project_machine.specs.History.{begin, last}
use Rattle.project_machine.specs.Asking.{LiesWithin}
use Rattle.turn_hall.specs.Counts.{same, within, times, AscendWithin}
use Rattle.turn_hall.specs.Steps.{put_in, merged}

pub times_append : (p : ℕ) (xs ys : List ℕ) → times p (xs ++ ys) ≡ times p xs + times p ys
times_append p [] ys = omega arith
times_append p (x ∷ xs) ys = let r = times_append p xs ys in omega arith

put_times : (p x y : ℕ) (ys : List ℕ) (b : Bool) → times p (put_in x ys) ≡ same p x + times p ys → times p (cond b (x ∷ y ∷ ys) (y ∷ put_in x ys)) ≡ same p x + (same p y + times p ys)
put_times p x y ys true r = refl
put_times p x y ys false r = let a : ℕ = same p x in let b : ℕ = same p y in omega arith

times_put : (p x : ℕ) (ys : List ℕ) → times p (put_in x ys) ≡ same p x + times p ys
times_put p x [] = refl
times_put p x (y ∷ ys) = put_times p x y ys (nat_le x y) (times_put p x ys)

pub times_merged : (p : ℕ) (xs ys : List ℕ) → times p (merged xs ys) ≡ times p xs + times p ys
times_merged p [] ys = omega arith
times_merged p (x ∷ xs) ys = let r = times_merged p xs ys in let e = times_put p x (merged xs ys) in let a : ℕ = same p x in omega arith

-- ---- places between wider bounds, and behind others

pub ascend_wider : (low low' high high' : ℕ) (ps : List ℕ) → low' ≤ low → high ≤ high' → AscendWithin low high ps → AscendWithin low' high' ps
ascend_wider low low' high high' [] l h a = tt
ascend_wider low low' high high' (p ∷ ps) l h a = let x = a.0 in let y = a.1 in (omega arith, omega arith, ascend_wider p p high high' ps (omega arith) h a.2)

pub ascend_bounds : (p low high : ℕ) (ps : List ℕ) → AscendWithin low high ps → 0 < times p ps → (low < p) × (p ≤ high)
ascend_bounds p low high [] a h = absurd (omega arith)
ascend_bounds p low high (q ∷ qs) a h =
    let x = a.0 in
    let y = a.1 in
    dite (ℕ_discrete (times p qs) 0)
    (λ z. (omega arith, omega arith))
    (λ n. let r = ascend_bounds p q high qs a.2 (omega arith) in let u = r.0 in let w = r.1 in (omega arith, omega arith))

-- no place stands there twice
pub ascend_once : (p low high : ℕ) (ps : List ℕ) → AscendWithin low high ps → times p ps ≤ 1
ascend_once p low high [] a = omega arith
ascend_once p low high (q ∷ qs) a =
    dite (ℕ_discrete (times p qs) 0)
    (λ z. omega arith)
    (λ n. let r = ascend_bounds p q high qs a.2 (omega arith) in let u = r.0 in let o = ascend_once p q high qs a.2 in omega arith)

pub ascend_append : (low mid high : ℕ) (ps qs : List ℕ) → low ≤ mid → mid ≤ high → AscendWithin low mid ps → AscendWithin mid high qs → AscendWithin low high (ps ++ qs)
ascend_append low mid high [] qs l h a b = ascend_wider mid low high high qs l (omega arith) b
ascend_append low mid high (p ∷ ps) qs l h a b = let y = a.1 in (a.0, omega arith, ascend_append p mid high ps qs a.1 h a.2 b)

-- places ascend between all bounds that each of them meets
pub ascend_between : (low low' high high' : ℕ) (ps : List ℕ) → AscendWithin low high ps → ((p : ℕ) → 0 < times p ps → (low' < p) × (p ≤ high')) → AscendWithin low' high' ps
ascend_between low low' high high' [] a all = tt
ascend_between low low' high high' (q ∷ qs) a all =
    let here = all q (omega arith) in (
      here.0,
      here.1,
      ascend_between q q high high' qs a.2 (λ p h. ((ascend_bounds p q high qs a.2 h).0, (all p (omega arith)).1)),
    )

-- ---- two lists as one

put_case : (low high p q : ℕ) (qs : List ℕ) (b : Bool) → nat_le p q ≡ b → low < p → p ≤ high → p ≢ q → AscendWithin low high (q ∷ qs) → (q < p → AscendWithin q high (put_in p qs)) → AscendWithin low high (cond b (p ∷ q ∷ qs) (q ∷ put_in p qs))
put_case low high p q qs true e l h n a more = let le : p ≤ q = grind (arith, nat_tests) in let lt : p < q = omega arith in (l, h, (lt, a.1, a.2))
put_case low high p q qs false e l h n a more = (a.0, a.1, more (grind (arith, nat_tests)))

ascend_put : (low high p : ℕ) (qs : List ℕ) → low < p → p ≤ high → times p qs ≡ 0 → AscendWithin low high qs → AscendWithin low high (put_in p qs)
ascend_put low high p [] l h none a = (l, h, tt)
ascend_put low high p (q ∷ qs) l h none a = put_case low high p q qs (nat_le p q) refl l h (λ e. omega arith) a (λ less. ascend_put q high p qs less h (omega arith) a.2)

pub ascend_merged : (low high : ℕ) (ps qs : List ℕ) → AscendWithin low high ps → AscendWithin low high qs → ((p : ℕ) → times p ps + times p qs ≤ 1) → AscendWithin low high (merged ps qs)
ascend_merged low high [] qs a b once = b
ascend_merged low high (p ∷ ps) qs a b once =
    let x = a.0 in
    ascend_put low high p (merged ps qs) a.0 a.1 (let o = once p in let m = times_merged p ps qs in omega arith)
    (ascend_merged low high ps qs (ascend_wider p low high high ps (omega arith) (omega arith) a.2) b (λ r. let o = once r in omega arith))

put_first : (p q : ℕ) (qs : List ℕ) (b : Bool) → nat_le p q ≡ b → p < q → cond b (p ∷ q ∷ qs) (q ∷ put_in p qs) ≡ p ∷ q ∷ qs
put_first p q qs true e lt = refl
put_first p q qs false e lt = absurd (let h : q < p = grind (arith, nat_tests) in omega arith)

put_low : (p high : ℕ) (qs : List ℕ) → AscendWithin p high qs → put_in p qs ≡ p ∷ qs
put_low p high [] a = refl
put_low p high (q ∷ qs) a = put_first p q qs (nat_le p q) refl a.0

pub merged_none : (low high : ℕ) (ps : List ℕ) → AscendWithin low high ps → merged ps [] ≡ ps
merged_none low high [] a = refl
merged_none low high (p ∷ ps) a = ap (put_in p) (merged_none p high ps a.2) ∙ put_low p high ps a.2

-- ---- all places between two

-- places that ascend, among which each place between the bounds stands once, are all places there
pub all_between : (low high : ℕ) (ps : List ℕ) → AscendWithin low high ps → ((p : ℕ) → times p ps ≡ within (low + 1) (high + 1) p) → ps ≡ range_with_len (low + 1) (high - low)
all_between low high [] a all = let none = all (low + 1) in ap (range_with_len (low + 1)) (let z : 0 ≡ high - low = omega arith in z)
all_between low high (q ∷ qs) a all =
    let x = a.0 in
    let y = a.1 in
    let next : times (low + 1) (q ∷ qs) ≡ 1 = (let t = all (low + 1) in omega arith) in
    let first : q ≡ low + 1 =
    dite (ℕ_discrete (times (low + 1) qs) 0)
    (λ z. omega arith)
    (λ n. absurd (let r = (ascend_bounds (low + 1) q high qs a.2 (omega arith)).0 in omega arith)) in
    let rest : qs ≡ range_with_len (q + 1) (high - q) = all_between q high qs a.2 (λ p. let t = all p in omega arith) in
    let size : suc (high - q) ≡ high - low = omega arith in
    ap (λ (n : ℕ). n ∷ qs) first ∙ (ap (λ ns. (low + 1) ∷ ns) (rest ∙ ap (λ (n : ℕ). range_with_len (n + 1) (high - q)) first) ∙ ap (range_with_len (low + 1)) size)

-- ---- as a visitor tells them

rising : (low high : ℕ) (ps : List ℕ) → AscendWithin low high ps → (k : ℕ) → suc k < length ps → slice_index ps k < slice_index ps (suc k)
rising low high [] a k h = absurd (omega arith)
rising low high (p ∷ []) a k h = absurd (omega arith)
rising low high (p ∷ q ∷ qs) a zero h = a.2.0
rising low high (p ∷ q ∷ qs) a (suc k) h = rising p high (q ∷ qs) a.2 k (omega arith)

pub increasing : (low high : ℕ) (ps : List ℕ) → AscendWithin low high ps → IsStrictlyIncreasing ps
increasing low high ps a k h = let next : suc k ≡ k + 1 = omega arith in subst (λ n. slice_index ps k < slice_index ps n) next (rising low high ps a k (omega arith))

pub lie_within : (seen : List Happened) (low : ℕ) (ps : List ℕ) → begin seen ≤ low → AscendWithin low (last seen) ps → All (LiesWithin seen) ps
lie_within seen low [] l a = All-nil (LiesWithin seen)
lie_within seen low (p ∷ ps) l a = let x = a.0 in All-cons (LiesWithin seen) p ps (omega arith, a.1) (lie_within seen p ps (omega arith) a.2)
