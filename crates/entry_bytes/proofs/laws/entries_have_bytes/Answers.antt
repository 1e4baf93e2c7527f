use Rattle.entry_bytes.proofs.EntryLaws.{some_bytes, sizes_of}
use Rattle.entry_bytes.proofs.laws.entries_have_bytes.Goals as goal

pub returns-clause-some : goal.returns-clause-some
returns-clause-some c = some_bytes

pub returns-clause-sizes : goal.returns-clause-sizes
returns-clause-sizes c = sizes_of
