use Rattle.std.proofs.Common.{◌≡◌, length}
use Rattle.layer_core.specs.Cascade.{same_ids}
use Rattle.layer_core.proofs.cascade.are_same.Given as goal

abbrev pub invariant-loop-id : goal.invariant-loop-id
invariant-loop-id l = same_ids l.left l.right ≡ same_ids l.a l.b

abbrev pub decreases-loop-id : goal.decreases-loop-id
decreases-loop-id l = length l.left
