-- What `progress BOOK` and `snapshots BOOK` do: they read a project as its file stands, and print a table of its state.
use Rattle.std.specs.Prelude.{◌≡◌, ℕ, List, Option}
use Rattle.project_machine.specs.ProjectState.{ProjectState}
use Rattle.project_machine.specs.Requests.{Happened}
use Rattle.project_machine.specs.History.{after}
use Rattle.project_machine.specs.ProgressTable.{progress_table}
use Rattle.project_machine.specs.SnapshotsTable.{snapshots_table}
use Rattle.program_inputs.specs.ProjectFiles.ProjectFiles.{OpensAs}

-- a file was read as a project, and these bytes are a table of its state
pub record PrintsTable (file : Option (List ℕ)) (table : ProjectState → List ℕ) (bytes : List ℕ) : Type 0 where
  pub log : List Happened
  pub opened : OpensAs file log
  pub printed : bytes ≡ table (after log)

-- what `progress` does
abbrev pub PrintsProgress : (file : Option (List ℕ)) → (bytes : List ℕ) → Type 0
PrintsProgress file bytes = PrintsTable file progress_table bytes

-- what `snapshots` does
abbrev pub PrintsSnapshots : (file : Option (List ℕ)) → (bytes : List ℕ) → Type 0
PrintsSnapshots file bytes = PrintsTable file snapshots_table bytes
