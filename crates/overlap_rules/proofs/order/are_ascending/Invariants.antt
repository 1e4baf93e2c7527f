use Rattle.std.proofs.Common.{◌≡◌, length}
use Rattle.overlap_rules.specs.Overlaps.{are_ascending}
use Rattle.overlap_rules.proofs.OrderLemmas.{ascend_from}
use Rattle.overlap_rules.proofs.order.are_ascending.Given as goal

abbrev pub invariant-loop-frag : goal.invariant-loop-frag
invariant-loop-frag l = are_ascending l.frags ≡ ascend_from l.end l.rest

abbrev pub decreases-loop-frag : goal.decreases-loop-frag
decreases-loop-frag l = length l.rest
