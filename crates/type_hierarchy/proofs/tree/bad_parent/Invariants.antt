use Rattle.std.proofs.Common.{◌≡◌, ◌<◌, ℕ, false}
use Rattle.type_hierarchy.specs.TypeFaults.{is_misplaced}
use Rattle.type_hierarchy.proofs.tree.bad_parent.Given as goal

abbrev pub invariant-loop-place : goal.invariant-loop-place
invariant-loop-place l = (k : ℕ) → k < l.place → is_misplaced l.rows k ≡ false
