use Rattle.std.proofs.Common.{◌≡◌}
use Rattle.project_state.specs.Tables.Counting.{labelled_upto}
use Rattle.project_state.proofs.TablesProofs.CountingLemmas.{with_document}
use Rattle.project_state.proofs.tables.counting.post_rows.Given as goal

abbrev pub invariant-loop-rater : goal.invariant-loop-rater
invariant-loop-rater g l = l.tables ≡ with_document l.fn.tables l.fn.doc (labelled_upto l.state.state l.rater l.document)
