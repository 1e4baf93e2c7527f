use Rattle.std.proofs.Common.{◌≡◌, ◌++◌, take}
use Rattle.project_journal.specs.JournalFile.{version_bytes, records}
use Rattle.project_journal.proofs.creation.body_of.Given as goal

abbrev pub invariant-loop-entry : goal.invariant-loop-entry
invariant-loop-entry l = l.body.items ≡ version_bytes 2 ++ records (take l.entry-index l.entries)
