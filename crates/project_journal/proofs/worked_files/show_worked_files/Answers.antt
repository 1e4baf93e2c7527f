use Rattle.std.proofs.Common.{refl}
use Rattle.project_journal.specs.JournalFile.{bytes_of, number_of, whole_record, opened}
use Rattle.project_journal.proofs.worked_files.show_worked_files.Goals as goal

pub returns : goal.returns
unfolding bytes_of number_of whole_record opened
returns c = record { empty = refl; empty_opens = refl; entry_record = refl; short = refl; newer = refl; reserved = refl; cut = refl; damaged = refl }
