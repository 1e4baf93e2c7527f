-- What `session BOOK` does: it opens a project and serves the console as one connection to it, which holds no desk at first.
use Rattle.std.specs.Prelude.{◌≡◌, ◌⊎◌, ℕ, List, Option, Result, Err}
use Rattle.project_machine.specs.Requests.{Happened}
use Rattle.project_machine.specs.History.{last}
use Rattle.project_book.specs.Visits.{visiting_alone}
use Rattle.annotation_http.specs.Exchanges.Connections.{Bare}
use Rattle.program_inputs.specs.declared.trouble.Trouble.{Trouble}
use Rattle.program_inputs.specs.ProjectFiles.ProjectFiles.{IsFileOf, NotOpened, OpensAs}
use Rattle.project_commands.specs.Commands.Serving.{Serves}

-- the console was served with a project, whose history then is this; nobody else changed it meanwhile
pub record ServesBook (faultless : Type 0) (log : List Happened) (left now before written : Option (List ℕ)) (done : Result (Unit {0}) Trouble) (log_now : List Happened) : Type 0 where
  pub faults : ℕ
  pub faults_now : ℕ
  pub room_now : ℕ
  pub served : Serves faultless Bare (visiting_alone log (last log) faults 18446744073709551615) (visiting_alone log_now (last log) faults_now room_now) left now before written done

-- the console was served with the project of a file; where no disk can fail, the file then is the journal of the history behind all that was asked
pub record ServesFile (faultless : Type 0) (file file_now left now before written : Option (List ℕ)) (done : Result (Unit {0}) Trouble) : Type 0 where
  pub log : List Happened
  pub log_now : List Happened
  pub opened : OpensAs file log
  pub served : ServesBook faultless log left now before written done log_now
  pub kept : faultless → IsFileOf file_now log_now

-- the project was not opened: the console is as before
pub record ServesNone (file left now before written : Option (List ℕ)) (done : Result (Unit {0}) Trouble) : Type 0 where
  pub why : Trouble
  pub told : NotOpened file why
  pub came : done ≡ Err why
  pub unread : now ≡ left
  pub unwritten : written ≡ before

-- what `session` does
abbrev pub SessionTold : (faultless : Type 0) → (file file_now left now before written : Option (List ℕ)) → Result (Unit {0}) Trouble → Type 0
SessionTold faultless file file_now left now before written done =
    ServesNone file left now before written done ⊎ ServesFile faultless file file_now left now before written done
