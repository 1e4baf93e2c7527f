use Rattle.project_machine.proofs.StayLemmas.{snapshot_keeps}
use Rattle.project_machine.proofs.laws.snapshots_stay.Goals as goal

pub returns : goal.returns
returns c = snapshot_keeps
