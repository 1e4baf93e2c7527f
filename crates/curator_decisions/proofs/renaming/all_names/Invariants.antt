use Rattle.std.proofs.Common.{None, get_or, take}
use Rattle.curator_decisions.specs.Placing.{AreNames}
use Rattle.curator_decisions.proofs.renaming.all_names.Given as goal

abbrev pub invariant-loop-row : goal.invariant-loop-row
invariant-loop-row l = AreNames (λ at. get_or l.ids at None) (take l.row-index l.rows) l.all.items
