use Rattle.std.proofs.Common.{take}
use Rattle.std.specs.List.{AllByRecursion}
use Rattle.layer_model.specs.Classes.{rank}
use Rattle.layer_core.specs.Indexes.{HasPairs, named_at}
use Rattle.layer_core.proofs.index.pairs_of.Given as goal

-- what the annotations so far name makes pairs with them
abbrev pub invariant-loop-id : goal.invariant-loop-id
invariant-loop-id l = AllByRecursion (λ other. HasPairs l.pairs (rank other) (named_at l.layer other)) (take l.id-index l.id-items)
