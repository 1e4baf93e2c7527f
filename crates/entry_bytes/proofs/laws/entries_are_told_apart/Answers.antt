use Rattle.entry_bytes.proofs.EntryLaws.{is_read, are_same}
use Rattle.entry_bytes.proofs.laws.entries_are_told_apart.Goals as goal

pub returns-clause-read_again : goal.returns-clause-read_again
returns-clause-read_again c = is_read

pub returns-clause-no_two : goal.returns-clause-no_two
returns-clause-no_two c = are_same
