use Rattle.project_reports.proofs.SnapshotLemmas.{unnamed}
use Rattle.project_reports.proofs.snapshots.name_of.Goals as goal

pub returns-in-None : goal.returns-in-None
returns-in-None c = unnamed c.args.state.now.state.documents c.args.doc c.in-None.ensures
