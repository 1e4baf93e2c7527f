use Rattle.std.proofs.Common.{◌≡◌, map, take}
use Rattle.std.specs.List.{filter}
use Rattle.curator_decisions.specs.Placing.{is_in_at}
use Rattle.curator_decisions.proofs.numbering.entries_in.Given as goal

abbrev pub invariant-loop-entry : goal.invariant-loop-entry
invariant-loop-entry l = l.entries.items ≡ filter (is_in_at (map (λ row. row.items) l.merged.marks.items) l.decisions) (take l.entry-index l.merged.firsts.items)
