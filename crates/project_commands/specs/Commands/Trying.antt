-- What `try CONF TEXT` does: it founds a project in memory on two files, hands its one document out, and serves the console from there.
use Rattle.std.specs.Prelude.{◌≡◌, ◌≢◌, ◌⊎◌, ℕ, true, false, List, [], ◌∷◌, codes, Option, Result, Err}
use Rattle.mark_base.specs.FailList.{FailState, IsFaultless}
use Rattle.entry_bytes.specs.declared.person.Person.{Person}
use Rattle.conf_model.specs.Configurations.{Configuration}
use Rattle.project_machine.specs.Requests.{AddText, Checkout, Happened}
use Rattle.project_machine.specs.History.{last}
use Rattle.project_book.specs.Founding.{founded}
use Rattle.project_book.specs.Visits.{visiting_alone}
use Rattle.annotation_http.specs.Exchanges.Connections.{Holding, Holds}
use Rattle.program_inputs.specs.declared.trouble.Trouble.{Trouble}
use Rattle.program_inputs.specs.declared.trouble.Trouble.TheVariants as trouble
use Rattle.program_inputs.specs.Files.{HasConf, ConfRefused, HoldsText, TextRefused}
use Rattle.project_commands.specs.Commands.Requests.{AddsText, ChecksOut, NotFounded, RefusesTo}
use Rattle.project_commands.specs.Commands.Serving.{Serves}

-- the people of a project to try: a curator, who adds the text, and an annotator
abbrev pub try_people : List Person
try_people = record { name = codes "desk"; curator = true } ∷ record { name = codes "you"; curator = false } ∷ []

-- the history of such a project when it is founded
abbrev pub try_founded : Configuration → List Happened
try_founded conf = founded conf 255 try_people

-- its history when the text was added and its layer handed out, and what is held then
pub record IsTried (conf : Configuration) (text : List ℕ) (held : Holding) (log : List Happened) : Type 0 where
  pub tokens : ℕ
  pub behind : List Happened
  pub added : AddsText (try_founded conf) (codes "desk") (codes "text") text tokens behind
  pub out : ChecksOut behind (codes "you") (codes "text") held log

-- the text was added, and its layer was not handed out
pub record NotOut (conf : Configuration) (text : List ℕ) (why : Trouble) : Type 0 where
  pub tokens : ℕ
  pub behind : List Happened
  pub added : AddsText (try_founded conf) (codes "desk") (codes "text") text tokens behind
  pub refused : RefusesTo behind (codes "you") (Checkout (codes "text")) why

-- why there is no such project: it is not founded, or refuses the text or the layer; no disk is at fault
pub record NotTried (conf : Configuration) (text : List ℕ) (why : Trouble) : Type 0 where
  pub told : NotFounded conf 255 try_people why ⊎ RefusesTo (try_founded conf) (codes "desk") (AddText (codes "text") text) why ⊎ NotOut conf text why
  pub sure : why ≢ trouble.DiskFailed

-- ---- files

-- the two files
pub record ReadsBoth (conf_file text_file : Option (Option (List ℕ))) (conf : Configuration) (text : List ℕ) : Type 0 where
  pub conf_is : HasConf conf_file conf
  pub text_is : HoldsText text_file text

-- the configuration is read, and the text is at fault
pub record TextAtFault (conf_file text_file : Option (Option (List ℕ))) (before now : ℕ) (why : Trouble) : Type 0 where
  pub conf : Configuration
  pub conf_is : HasConf conf_file conf
  pub told : TextRefused text_file before now why

-- the files are read, and there is no project
pub record ProjectAtFault (conf_file text_file : Option (Option (List ℕ))) (why : Trouble) : Type 0 where
  pub conf : Configuration
  pub text : List ℕ
  pub files : ReadsBoth conf_file text_file conf text
  pub told : NotTried conf text why

-- the files are read, and this is their project with what is held
pub record FindsProject (conf_file text_file : Option (Option (List ℕ))) (held : Holding) (log : List Happened) : Type 0 where
  pub conf : Configuration
  pub text : List ℕ
  pub files : ReadsBoth conf_file text_file conf text
  pub tried : IsTried conf text held log

-- why nothing is served; the configuration is judged before the text is read
abbrev pub NoProject : (conf_file text_file : Option (Option (List ℕ))) → (before now : ℕ) → Trouble → Type 0
NoProject conf_file text_file before now why =
    ConfRefused conf_file before now why ⊎ TextAtFault conf_file text_file before now why ⊎ ProjectAtFault conf_file text_file why

-- ---- the console

-- nothing was served: the console is as before
pub record ServesNothing (conf_file text_file : Option (Option (List ℕ))) (faults_before faults_now : ℕ) (left now before written : Option (List ℕ)) (done : Result (Unit {0}) Trouble) : Type 0 where
  pub why : Trouble
  pub told : NoProject conf_file text_file faults_before faults_now why
  pub came : done ≡ Err why
  pub unread : now ≡ left
  pub unwritten : written ≡ before

-- the console was served from what is held behind a history, over a keeper in memory whose appends fail so; nobody else changed the project meanwhile
pub record ServedFrom (held : Holding) (log : List Happened) (appends : FailState) (left now before written : Option (List ℕ)) (done : Result (Unit {0}) Trouble) : Type 0 where
  pub log_now : List Happened
  pub faults_now : ℕ
  pub room_now : ℕ
  pub served : Serves (IsFaultless appends) (Holds held) (visiting_alone log (last log) appends.faults 18446744073709551615) (visiting_alone log_now (last log) faults_now room_now) left now before written done

-- the console was served from the desk of the files' project, over a keeper that does not fail
pub record ServesFiles (conf_file text_file : Option (Option (List ℕ))) (left now before written : Option (List ℕ)) (done : Result (Unit {0}) Trouble) : Type 0 where
  pub held : Holding
  pub log : List Happened
  pub found : FindsProject conf_file text_file held log
  pub appends : FailState
  pub sure : IsFaultless appends
  pub served : ServedFrom held log appends left now before written done

-- what `try` does
abbrev pub TryTold : (conf_file text_file : Option (Option (List ℕ))) → (faults_before faults_now : ℕ) → (left now before written : Option (List ℕ)) → Result (Unit {0}) Trouble → Type 0
TryTold conf_file text_file faults_before faults_now left now before written done =
    ServesNothing conf_file text_file faults_before faults_now left now before written done
    ⊎ ServesFiles conf_file text_file left now before written done
