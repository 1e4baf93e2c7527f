use Rattle.project_reports.proofs.LayerLemmas.{coherent}
use Rattle.project_reports.proofs.snapshots.snapshots_csv.Goals as goal

pub write_snapshots-requires-clause-coherent : goal.write_snapshots-requires-clause-coherent
write_snapshots-requires-clause-coherent c = coherent c.well_formed_layers_cohere.ensures c.args.state.now.state c.requires
