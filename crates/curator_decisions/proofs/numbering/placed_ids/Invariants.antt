use Rattle.std.proofs.Common.{◌≡◌, map, take}
use Rattle.curator_decisions.specs.Placing.{placed_id}
use Rattle.curator_decisions.proofs.numbering.placed_ids.Given as goal

abbrev pub invariant-loop-one : goal.invariant-loop-one
invariant-loop-one l = l.placed.items ≡ map placed_id (take l.one-index l.numbered)
