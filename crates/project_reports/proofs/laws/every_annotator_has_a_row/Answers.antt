use Rattle.project_reports.proofs.LayerLemmas.{rows_for_all}
use Rattle.project_reports.proofs.laws.every_annotator_has_a_row.Goals as goal

pub returns : goal.returns
returns c = λ s kept. rows_for_all s kept
