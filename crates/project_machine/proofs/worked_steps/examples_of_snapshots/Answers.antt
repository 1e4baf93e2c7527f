use Rattle.std.proofs.Common.{refl}
use Rattle.std.specs.Fmt.{digits}
use Rattle.entry_bytes.specs.Entries.{entry_bytes}
use Rattle.entry_bytes.specs.Fields.{u32_bytes, u64_bytes}
use Rattle.project_machine.proofs.worked_steps.examples_of_snapshots.Goals as goal

pub returns-clause-one_finished : goal.returns-clause-one_finished
unfolding digits
returns-clause-one_finished c = refl

pub returns-clause-two_finished : goal.returns-clause-two_finished
unfolding entry_bytes u32_bytes u64_bytes
returns-clause-two_finished c = refl

pub returns-clause-no_snapshot_0 : goal.returns-clause-no_snapshot_0
returns-clause-no_snapshot_0 c = refl

pub returns-clause-snapshot_1 : goal.returns-clause-snapshot_1
returns-clause-snapshot_1 c = refl

pub returns-clause-no_snapshot_2 : goal.returns-clause-no_snapshot_2
returns-clause-no_snapshot_2 c = refl
