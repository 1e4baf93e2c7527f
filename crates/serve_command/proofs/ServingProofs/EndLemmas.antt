-- How a run ends, by what opened, served and closed its project.
use Rattle.std.proofs.Common.{◌≡◌, ◌<◌, ℕ, List, Option, Some, None, Result, Ok, Err, ◌∙◌, subst, arith}
use Rattle.std.specs.Prelude.{IfSome, IsErrOf}
use Rattle.mark_base.specs.Streams.{Rose, TellsFault}
use Rattle.program_inputs.specs.declared.trouble.Trouble as declared
use Rattle.program_inputs.specs.declared.trouble.Trouble.TheVariants as trouble
use Rattle.program_inputs.specs.ProjectFiles.ProjectFiles.{IsFileOf, NotOpened, OpensAs}
use Rattle.project_machine.specs.Requests.{Happened}
use Rattle.serve_command.specs.declared.serving.serve_end.ServeEnd.{ServeEnd}
use Rattle.serve_command.specs.declared.serving.serve_end.ServeEnd.TheVariants.{Trouble, DoorRefused, DoorFailed}
use Rattle.serve_command.specs.Serving.Serving.{Ends, EndsBehind, IsFileOrOneMore, IsServed}
use Rattle.serve_command.specs.Serving.Workers.{TellsDoor}

-- ---- what is told of a disk is told of its file

told : (P : Option (List ℕ) → Type 0) (file held : Option (List ℕ)) → IfSome file (λ bytes. held ≡ Some bytes) → P None → P held → P file
told P None held reads untold here = untold
told P (Some bytes) held reads untold here = subst P reads here

opens_told : (log : List Happened) (file held : Option (List ℕ)) → IfSome file (λ bytes. held ≡ Some bytes) → OpensAs held log → OpensAs file log
opens_told log file held reads opens = told (λ f. OpensAs f log) file held reads (record { entries = opens.entries; read = tt; history = opens.history }) opens

left_told : (log : List Happened) (file held : Option (List ℕ)) → IfSome file (λ bytes. held ≡ Some bytes) → IsFileOrOneMore held log → IsFileOrOneMore file log
left_told log file held reads left = told (λ f. IsFileOrOneMore f log) file held reads (record { doubt = left.doubt; next = left.next; left = tt }) left

served_told : (faultless sure : Type 0) (file held file_now held_now : Option (List ℕ)) → IfSome file (λ bytes. held ≡ Some bytes) → IfSome file_now (λ bytes. held_now ≡ Some bytes) → (faultless → sure)
    → IsServed sure held held_now → IsServed faultless file file_now
served_told faultless sure file held file_now held_now reads reads_now gives served = record {
  opening = served.opening;
  log = served.log;
  is_opened = opens_told served.opening file held reads served.is_opened;
  begun = served.begun;
  left = left_told served.log file_now held_now reads_now served.left;
  certain = λ f. told (λ now. IsFileOf now served.log) file_now held_now reads_now tt (served.certain (gives f));
}

untold : (why : declared.Trouble) (held : Option (List ℕ)) → NotOpened held why → NotOpened None why
untold trouble.NotAJournal held is = tt
untold (trouble.NewerVersion version) held is = tt
untold (trouble.Damaged number) held is = tt
untold (trouble.BadEntry number) held is = record { entries = is.entries; read = tt; fault = is.fault }
untold why held is = is

refused_told : (why : declared.Trouble) (file held : Option (List ℕ)) → IfSome file (λ bytes. held ≡ Some bytes) → NotOpened held why → NotOpened file why
refused_told why file held reads is = told (λ f. NotOpened f why) file held reads (untold why held is) is

-- what is told of the disk that was handed out, served and given back is told of the file
pub ends_told : (faultless given sure : Type 0) (file held file_now held_now : Option (List ℕ)) (end : Result (Unit {0}) ServeEnd)
    → IfSome file (λ bytes. held ≡ Some bytes) → IfSome file_now (λ bytes. held_now ≡ Some bytes) → (faultless → given)
    → EndsBehind given sure held held_now end → EndsBehind faultless sure file file_now end
ends_told faultless given sure file held file_now held_now (Ok done) reads reads_now gives ends = served_told faultless given file held file_now held_now reads reads_now gives ends
ends_told faultless given sure file held file_now held_now (Err (Trouble why)) reads reads_now gives ends = refused_told why file held reads ends
ends_told faultless given sure file held file_now held_now (Err DoorRefused) reads reads_now gives ends = ends
ends_told faultless given sure file held file_now held_now (Err DoorFailed) reads reads_now gives ends =
    (served_told faultless given file held file_now held_now reads reads_now gives ends.0, ends.1)

none_counted : (count before now : ℕ) → count ≡ 0 → TellsFault (0 < count) before now → now ≡ before
none_counted count before now none told = told.still (λ some. omega (arith, none, some))

-- how a run ends behind a door that came back, where nothing was counted before
pub ends_behind : (faultless sure : Type 0) (file file_now : Option (List ℕ)) (faults between faults_now of_door : ℕ) (end : Result (Unit {0}) ServeEnd) → EndsBehind faultless sure file file_now end
    → TellsDoor end of_door → between ≡ faults → TellsFault (0 < of_door) between faults_now → Ends faultless sure file file_now faults faults_now end
ends_behind faultless sure file file_now faults between faults_now of_door (Ok done) ends door still told = (ends, none_counted of_door between faults_now door told ∙ still)
ends_behind faultless sure file file_now faults between faults_now of_door (Err (Trouble why)) ends door still told = (ends, none_counted of_door between faults_now door told ∙ still)
ends_behind faultless sure file file_now faults between faults_now of_door (Err DoorRefused) ends door still told = absurd ends
ends_behind faultless sure file file_now faults between faults_now of_door (Err DoorFailed) ends door still told = (ends, subst (λ (n : ℕ). Rose n faults_now) still (told.rose door))

-- an end behind a door is not that none was handed out
pub not_refused : (faultless sure : Type 0) (file file_now : Option (List ℕ)) (end : Result (Unit {0}) ServeEnd) → EndsBehind faultless sure file file_now end → IsErrOf end DoorRefused → ⊥
not_refused faultless sure file file_now (Ok done) ends is = cc
not_refused faultless sure file file_now (Err (Trouble why)) ends is = cc
not_refused faultless sure file file_now (Err DoorRefused) ends is = ends
not_refused faultless sure file file_now (Err DoorFailed) ends is = cc
