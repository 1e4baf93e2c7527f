-- What a command does with the file of a project: it is opened, something is done, and the file has the history behind that; or it is read as it stands, and stays so.
use Rattle.std.specs.Prelude.{ℕ, List, Option}
use Rattle.project_machine.specs.Requests.{Happened}
use Rattle.program_inputs.specs.ProjectFiles.ProjectFiles.{IsFileOf, OpensAs}

-- the file was opened as a project of a history, this was done there, and the file then is the journal of the history behind it
pub record WorksOn (file file_now : Option (List ℕ)) (Done : List Happened → List Happened → Type 0) : Type 0 where
  pub log : List Happened
  pub now : List Happened
  pub opened : OpensAs file log
  pub done : Done log now
  pub kept : IsFileOf file_now now

-- the file was read as a project of a history, this was shown of it, and the file stays as it is; `now` is the history of what was read behind that
pub record LooksAt (file : Option (List ℕ)) (Shown : List Happened → List Happened → Type 0) : Type 0 where
  pub log : List Happened
  pub now : List Happened
  pub opened : OpensAs file log
  pub shown : Shown log now

-- the file was opened as a project of a history, and this is why nothing more was done
pub record EndsOn (file : Option (List ℕ)) (Why : List Happened → Type 0) : Type 0 where
  pub log : List Happened
  pub opened : OpensAs file log
  pub told : Why log
