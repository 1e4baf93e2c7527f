use Rattle.std.proofs.Common.{◌≡◌, length}
use Rattle.layer_core.specs.Regrouped.{first_other}
use Rattle.layer_core.proofs.removal.first_other.Given as goal

abbrev pub invariant-loop-member : goal.invariant-loop-member
invariant-loop-member l = first_other l.id l.left ≡ first_other l.id l.members

abbrev pub decreases-loop-member : goal.decreases-loop-member
decreases-loop-member l = length l.left
