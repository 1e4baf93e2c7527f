-- What single calls write (private calls only).
use Rattle.std.specs.Prelude.{ℕ, List, [], Option}
use Rattle.std.specs.Option.{option_map_or}
use Rattle.agreement_report.specs.Report.{row}
use Rattle.project_machine.specs.ProjectState.{Row}
use Rattle.project_machine.specs.ProgressTable.{progress_fields}

-- the row of an annotator on the document of a name, where there is one
abbrev pub row_if : (document who : List ℕ) → Option Row → List ℕ
row_if document who found = option_map_or (λ r. row (progress_fields document who r)) found []
