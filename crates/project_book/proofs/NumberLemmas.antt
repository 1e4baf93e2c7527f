-- The snapshot of a number.
use Rattle.std.proofs.Common.{◌≡◌, ◌≢◌, ◌⊎◌, inl, inr, ℕ, ◌-◌, ◌<◌, ◌≤◌, ◌==◌, ◌||◌, Bool, false, List, [], ◌∷◌, length, get_or, slice_get, nat_lt, Some, None, zero, suc, refl, sym, ◌∙◌, ap, arith, if◌then◌else◌}
use Rattle.std.proofs.lemmas.Bool.{cases_lt, le-ltb, lt-ltb}
use Rattle.std.proofs.lemmas.Bool.Decides.{nat_tests}
use Rattle.project_machine.specs.ProjectState.{Snapshot, ProjectState, no_snapshot, snapshot, snapshot_of}

taken_at : (shots : List Snapshot) (k : ℕ) → (k < length shots → slice_get shots k ≡ Some (get_or shots k no_snapshot)) × (length shots ≤ k → slice_get shots k ≡ None)
taken_at [] k = (λ h. absurd (omega arith), λ h. refl)
taken_at (shot ∷ shots) zero = (λ h. refl, λ h. absurd (omega arith))
taken_at (shot ∷ shots) (suc k) = (λ h. (taken_at shots k).0 (omega arith), λ h. (taken_at shots k).1 (omega arith))

not_zero : (k : ℕ) → (suc k == 0) ≡ false
not_zero k = let some : suc k ≢ 0 = λ e. omega (arith, e) in grind (arith, nat_tests, some)

pub numbered_at : (s : ProjectState) (number : ℕ) → number ≢ 0 → slice_get s.snapshots (number - 1) ≡ snapshot_of s number
numbered_at s zero some = absurd (some refl)
numbered_at s (suc k) some = by (cases_lt k (length s.snapshots))
  where
    by : (k < length s.snapshots) ⊎ (length s.snapshots ≤ k) → slice_get s.snapshots (suc k - 1) ≡ snapshot_of s (suc k)
    by (inl low) = let back : suc k - 1 ≡ k = omega arith in
        ap (slice_get s.snapshots) back ∙ ((taken_at s.snapshots k).0 low ∙ (ap (λ (n : ℕ). Some (get_or s.snapshots n no_snapshot)) (sym back)
        ∙ ap (λ (b : Bool). if b then None else Some (snapshot s (suc k))) (sym (ap (λ (a : Bool). a || nat_lt (length s.snapshots) (suc k)) (not_zero k) ∙ le-ltb (length s.snapshots) (suc k) (omega arith)))))
    by (inr high) = let back : suc k - 1 ≡ k = omega arith in
        ap (slice_get s.snapshots) back ∙ ((taken_at s.snapshots k).1 high
        ∙ ap (λ (b : Bool). if b then None else Some (snapshot s (suc k))) (sym (ap (λ (a : Bool). a || nat_lt (length s.snapshots) (suc k)) (not_zero k) ∙ lt-ltb (length s.snapshots) (suc k) (omega arith))))

pub untaken_at_zero : (s : ProjectState) (number : ℕ) → number ≡ 0 → None ≡ snapshot_of s number
untaken_at_zero s number e = ap (λ (n : ℕ). snapshot_of s n) (sym e)
