use Rattle.std.proofs.Common.{◌≡◌, map, take}
use Rattle.unanimous_merge.specs.Rows.{entries_from}
use Rattle.unanimous_merge.proofs.entry.entries_of.Given as goal

abbrev pub invariant-loop-holder : goal.invariant-loop-holder
invariant-loop-holder l = l.entries.items ≡ entries_from 0 (map (λ row. row.marks.items) (take l.holder l.rows))
