use Rattle.std.proofs.Common.{length}
use Rattle.checkpoint.proofs.VerdictLemmas.{AreReadSo}
use Rattle.checkpoint.proofs.verdicts.pairs_of.Given as goal

abbrev pub invariant-loop-rest : goal.invariant-loop-rest
invariant-loop-rest l = AreReadSo l.bytes l.pairs.items l.rest

abbrev pub decreases-loop-rest : goal.decreases-loop-rest
decreases-loop-rest l = length l.rest
