use Rattle.std.proofs.Common.{◌≡◌, ℕ, ◌≤◌, None, drop, get_or, length}
use Rattle.std.specs.Ordering.{nat_cmp}
use Rattle.std.specs.BTreeMap.{get}
use Rattle.curator_decisions.specs.Placing.{called}
use Rattle.curator_decisions.proofs.renaming.names_of.Given as goal

abbrev pub invariant-loop-left : goal.invariant-loop-left
invariant-loop-left l = record {
  within : l.left ≤ length l.marks;
  names : (place : ℕ) → get nat_cmp l.names place ≡ called (λ at. get_or l.ids at None) (drop l.left l.marks) place;
}

abbrev pub decreases-loop-left : goal.decreases-loop-left
decreases-loop-left l = l.left
