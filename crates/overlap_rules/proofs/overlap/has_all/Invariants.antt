use Rattle.std.proofs.Common.{◌+◌, length}
use Rattle.overlap_rules.proofs.CoverLemmas.{Seeks}
use Rattle.overlap_rules.proofs.overlap.has_all.Given as goal

abbrev pub invariant-loop-frag : goal.invariant-loop-frag
invariant-loop-frag l = Seeks l.a l.b l.left l.sought l.next

abbrev pub decreases-loop-frag : goal.decreases-loop-frag
decreases-loop-frag l = length l.left + length l.sought
