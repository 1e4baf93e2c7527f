-- The tables about a whole project that are read of it, as CSV (RFC 4180).
use Rattle.std.specs.Prelude.{ℕ, Bool, true, false, List, [], ◌∷◌, codes}
use Rattle.std.specs.List.{flat_map}
use Rattle.entry_bytes.specs.declared.person.Person.{Person}
use Rattle.agreement_report.specs.Report.{row}
use Rattle.project_machine.specs.declared.report.Report.{Report}
use Rattle.project_machine.specs.declared.report.Report.TheVariants as report
use Rattle.project_machine.specs.ProjectState.{ProjectState}
use Rattle.project_machine.specs.ProgressTable.{shown_progress}
use Rattle.project_machine.specs.SnapshotsTable.{snapshots_table}

-- what a person is, as a roster file says it
abbrev pub role_text : (curator : Bool) → List ℕ
role_text true = codes "curator"
role_text false = codes "annotator"

-- the row of a person in a roster file: the name and the role
abbrev pub person_row : Person → List ℕ
person_row person = row (person.name ∷ role_text person.curator ∷ [])

-- the people in the order of their names, as a roster file has them
abbrev pub roster_table : ProjectState → List ℕ
roster_table s = flat_map person_row s.people

-- a table about a whole project, as a caller is shown it
abbrev pub report_table : ProjectState → (caller : List ℕ) → Report → List ℕ
report_table s caller report.Progress = shown_progress s caller
report_table s caller report.Snapshots = snapshots_table s
report_table s caller report.Roster = roster_table s
