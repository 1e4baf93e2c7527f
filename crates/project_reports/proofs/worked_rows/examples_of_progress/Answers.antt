-- Each row is computed.
use Rattle.std.proofs.Common.{refl}
use Rattle.std.specs.Fmt.{digits}
use Rattle.csv.specs.Writing.{escaped, fields_text, is_blank}
use Rattle.project_machine.specs.ProjectState.{row_at}
use Rattle.project_machine.specs.WorkedSteps.{at_place}
use Rattle.project_reports.specs.WorkedStates.{parked_row}
use Rattle.project_reports.proofs.WorkedLemmas.{shown_empty, shown_two}
use Rattle.project_reports.proofs.worked_rows.examples_of_progress.Goals as goal

pub returns-clause-no_documents : goal.returns-clause-no_documents
unfolding escaped fields_text is_blank
returns-clause-no_documents c = refl

pub returns-clause-nothing_begun : goal.returns-clause-nothing_begun
unfolding digits
returns-clause-nothing_begun c = shown_empty (row_at (at_place 2) 0 0) refl

pub returns-clause-out : goal.returns-clause-out
unfolding digits
returns-clause-out c = shown_empty (row_at (at_place 3) 0 0) refl

pub returns-clause-out_again : goal.returns-clause-out_again
unfolding digits
returns-clause-out_again c = shown_empty (row_at (at_place 5) 0 0) refl

pub returns-clause-open : goal.returns-clause-open
unfolding digits
returns-clause-open c = shown_empty (row_at (at_place 6) 0 0) refl

pub returns-clause-finished : goal.returns-clause-finished
unfolding digits
returns-clause-finished c = shown_empty (row_at (at_place 7) 0 0) refl

pub returns-clause-ignored : goal.returns-clause-ignored
unfolding digits
returns-clause-ignored c = shown_two parked_row refl
