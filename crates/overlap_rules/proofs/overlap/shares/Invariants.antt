use Rattle.std.proofs.Common.{◌+◌, length}
use Rattle.overlap_rules.proofs.CoverLemmas.{Walks}
use Rattle.overlap_rules.proofs.overlap.shares.Given as goal

abbrev pub invariant-loop-one : goal.invariant-loop-one
invariant-loop-one l = Walks l.a l.b l.left l.right

abbrev pub decreases-loop-one : goal.decreases-loop-one
decreases-loop-one l = length l.left + length l.right
