-- What `compact BOOK MADE` does: a project is read as its file stands, and another file becomes a journal that begins with its state.
use Rattle.std.specs.Prelude.{◌≡◌, ◌≢◌, ◌⊎◌, ℕ, List, ◌++◌, codes, decimal, length, Option, IfSome, ⊤}
use Rattle.project_machine.specs.Requests.{Happened}
use Rattle.project_machine.specs.History.{after, encoded, last}
use Rattle.project_machine.specs.Opening.{restored}
use Rattle.program_inputs.specs.declared.trouble.Trouble.{Trouble}
use Rattle.program_inputs.specs.declared.trouble.Trouble.TheVariants.{AlreadyThere, DiskFailed, Memory}
use Rattle.program_inputs.specs.ProjectFiles.ProjectFiles.{IsFileOf, NotBegun, NotOpened, OpensAs}
use Rattle.project_commands.specs.Works.{EndsOn}

-- the place of a project, as `place 2`
abbrev pub place_line : ℕ → List ℕ
place_line place = codes "place " ++ (decimal place ++ codes "\n")

-- a file was read as a project; these are the pieces of its state, which is at this place
pub record TellsState (file : Option (List ℕ)) (pieces : List (List ℕ)) (place : ℕ) : Type 0 where
  pub log : List Happened
  pub opened : OpensAs file log
  pub pieces_are : pieces ≡ encoded (restored (after log))
  pub place_is : place ≡ last log

-- a file was read as a project; another file is the journal of the history whose one change is the state of the project; and its place was found to print
pub record Compacts (file made_now : Option (List ℕ)) (bytes : List ℕ) : Type 0 where
  pub log : List Happened
  pub opened : OpensAs file log
  pub made : IsFileOf made_now (restored (after log))
  pub line : bytes ≡ place_line (last log)

-- why a project was not compacted: it was not read, or it was, and the other file could not be made
abbrev pub NotCompacted : (file made : Option (List ℕ)) → Trouble → Type 0
NotCompacted file made why = NotOpened file why ⊎ EndsOn file (λ log. NotBegun made why)
