use Rattle.std.proofs.Common.{take}
use Rattle.layer_core.specs.Indexes.{HasPairs, KeepsPairs}
use Rattle.layer_core.proofs.index.put_pairs.Given as goal

-- the IDs so far make pairs, and nothing was taken away
abbrev pub invariant-loop-id : goal.invariant-loop-id
invariant-loop-id l = HasPairs l.pairs l.namer (take l.id-index l.ids) × KeepsPairs l.initial.pairs l.pairs
