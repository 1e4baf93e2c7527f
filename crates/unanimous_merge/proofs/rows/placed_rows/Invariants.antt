use Rattle.std.proofs.Common.{take}
use Rattle.unanimous_merge.specs.Rows.{AreRows}
use Rattle.unanimous_merge.proofs.rows.placed_rows.Given as goal

abbrev pub invariant-loop-i : goal.invariant-loop-i
invariant-loop-i l = AreRows l.table l.rows.items (take l.i l.snapshot)
