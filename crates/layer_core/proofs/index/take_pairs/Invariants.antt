use Rattle.layer_core.specs.Indexes.{KeepsOthers}
use Rattle.layer_core.proofs.index.take_pairs.Given as goal

abbrev pub invariant-loop-id : goal.invariant-loop-id
invariant-loop-id l = KeepsOthers l.namer l.initial.pairs l.pairs
