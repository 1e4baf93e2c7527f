-- What a stop at some moment since an earlier one may have left.
use Rattle.std.specs.Prelude.{ℕ, ◌≤◌, List, ◌⊎◌}

-- Time goes on: a stop since t may have left what it may have left before, or what it may leave now.
pub record Elapses (before now : ℕ) (past since : ℕ → List ℕ → Type 0) (images : List ℕ → Type 0) : Type 0 where
  pub later : before ≤ now
  pub nothing_else : (t : ℕ) (image : List ℕ) → t ≤ before → since t image → past t image ⊎ images image
  pub keeps : (t : ℕ) (image : List ℕ) → t ≤ before → past t image → since t image

-- What a stop at any moment from `old` to `new` leaves has P. The last field speaks of moments before `old`, so that runs can be joined.
pub record LeavesOnly {D X : Type 0} (moment : D → ℕ) (left_since : D → ℕ → X → Type 0) (old new : D) (P : X → Type 0) : Type 0 where
  pub later : moment old ≤ moment new
  pub each : (x : X) → left_since new (moment old) x → P x
  pub before : (t : ℕ) (x : X) → t ≤ moment old → left_since new t x → left_since old t x ⊎ P x
