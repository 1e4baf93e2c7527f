use Rattle.std.proofs.Common.{◌≡◌, ◌++◌, take}
use Rattle.unanimous_merge.specs.Rows.{entries_by}
use Rattle.unanimous_merge.proofs.entry.push_entries.Given as goal

abbrev pub invariant-loop-one : goal.invariant-loop-one
invariant-loop-one l = l.entries.items ≡ l.initial.entries.items ++ entries_by l.holder (take l.one-index l.placed)
