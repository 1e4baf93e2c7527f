use Rattle.std.proofs.Common.{◌≡◌, ◌++◌, drop, map, None, take}
use Rattle.project_machine.specs.History.{under_hold}
use Rattle.project_state.proofs.document.free_rows.Given as goal

abbrev pub invariant-loop-row : goal.invariant-loop-row
invariant-loop-row l = l.rows ≡ map (under_hold None) (take l.row-index l.initial.rows) ++ drop l.row-index l.initial.rows
