use Rattle.std.proofs.Common.{refl}
use Rattle.entry_bytes.specs.Fields.{u32_bytes, u64_bytes}
use Rattle.entry_bytes.specs.Entries.{entry_bytes}
use Rattle.entry_bytes.proofs.worked_rows.examples_of_entries.Goals as goal

pub returns-clause-a_checkout : goal.returns-clause-a_checkout
unfolding u32_bytes u64_bytes entry_bytes
returns-clause-a_checkout c = refl

pub returns-clause-a_commit : goal.returns-clause-a_commit
unfolding u32_bytes u64_bytes entry_bytes
returns-clause-a_commit c = refl

pub returns-clause-a_founding : goal.returns-clause-a_founding
unfolding u32_bytes u64_bytes entry_bytes
returns-clause-a_founding c = refl

pub returns-clause-a_decision : goal.returns-clause-a_decision
unfolding u32_bytes u64_bytes entry_bytes
returns-clause-a_decision c = refl

pub returns-clause-a_row : goal.returns-clause-a_row
unfolding u32_bytes u64_bytes entry_bytes
returns-clause-a_row c = refl

pub returns-clause-an_end : goal.returns-clause-an_end
unfolding u32_bytes u64_bytes entry_bytes
returns-clause-an_end c = refl
