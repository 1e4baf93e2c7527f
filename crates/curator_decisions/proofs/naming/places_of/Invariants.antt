use Rattle.std.proofs.Common.{◌≡◌, ℕ, ◌≤◌, drop, length}
use Rattle.std.specs.Ordering.{nat_cmp}
use Rattle.std.specs.BTreeMap.{get}
use Rattle.curator_decisions.specs.Placing.{called}
use Rattle.curator_decisions.proofs.naming.places_of.Given as goal

abbrev pub invariant-loop-left : goal.invariant-loop-left
invariant-loop-left l = record {
  within : l.left ≤ length l.marks;
  places : (place : ℕ) → get nat_cmp l.places place ≡ called {T = ℕ} (λ at. at) (drop l.left l.marks) place;
}

abbrev pub decreases-loop-left : goal.decreases-loop-left
decreases-loop-left l = l.left
