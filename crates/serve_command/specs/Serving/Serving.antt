-- A run of `serve`: what becomes of the file of the project, and how the run ends.
use Rattle.std.specs.Prelude.{◌≡◌, ℕ, List, Option, IfSome, Result, Ok, Err}
use mathlib.Core.List.{IsPrefix}
use Rattle.mark_base.specs.Streams.{Rose}
use Rattle.project_journal.specs.JournalFile.{opened}
use Rattle.project_journal.specs.Keeper.{IsKeptOrDoubt}
use Rattle.project_machine.specs.Asking.{IsNext}
use Rattle.project_machine.specs.Requests.{Happened}
use Rattle.project_machine.specs.History.{encoded}
use Rattle.program_inputs.specs.ProjectFiles.ProjectFiles.{IsFileOf, NotOpened, OpensAs}
use Rattle.project_book.specs.declared.open_fault.OpenFault.{OpenFault}
use Rattle.project_book.specs.declared.open_fault.OpenFault.TheVariants as fault
use Rattle.program_inputs.specs.declared.trouble.Trouble as declared
use Rattle.program_inputs.specs.declared.trouble.Trouble.TheVariants as trouble
use Rattle.serve_command.specs.declared.serving.serve_end.ServeEnd.{ServeEnd}
use Rattle.serve_command.specs.declared.serving.serve_end.ServeEnd.TheVariants.{Trouble, DoorRefused, DoorFailed}

-- a file, where it is told, is the journal of a history, or has one entry more behind it, which could be the next
pub record IsFileOrOneMore (file : Option (List ℕ)) (log : List Happened) : Type 0 where
  pub doubt : Option (List ℕ)
  pub next : IfSome doubt (IsNext log)
  pub left : IfSome file (λ bytes. IsKeptOrDoubt (encoded log) doubt (opened bytes))

-- a project was opened from a file, and its disk was given back: its history goes on from the one that was opened, and the file is the journal of that, but that behind a disk that may fail one refused entry may stand
pub record IsServed (faultless : Type 0) (file file_now : Option (List ℕ)) : Type 0 where
  pub opening : List Happened
  pub log : List Happened
  pub is_opened : OpensAs file opening
  pub begun : IsPrefix opening log
  pub left : IsFileOrOneMore file_now log
  pub certain : faultless → IsFileOf file_now log

-- by each end behind a door that was handed out: the project was served; or its file was not opened, or memory ran out; or the door failed, where its type does not rule that out
abbrev pub EndsBehind : (faultless sure : Type 0) (file file_now : Option (List ℕ)) → Result (Unit {0}) ServeEnd → Type 0
EndsBehind faultless sure file file_now (Ok done) = IsServed faultless file file_now
EndsBehind faultless sure file file_now (Err (Trouble why)) = NotOpened file why
EndsBehind faultless sure file file_now (Err DoorRefused) = ⊥
EndsBehind faultless sure file file_now (Err DoorFailed) = IsServed faultless file file_now × (sure → ⊥)

-- by each end of a run: no door was handed out that could be served, which was counted, and the file stays as it is; or as behind a door, whose fault was counted
abbrev pub Ends : (faultless sure : Type 0) (file file_now : Option (List ℕ)) (faults faults_now : ℕ) → Result (Unit {0}) ServeEnd → Type 0
Ends faultless sure file file_now faults faults_now (Ok done) = EndsBehind faultless sure file file_now (Ok done) × (faults_now ≡ faults)
Ends faultless sure file file_now faults faults_now (Err (Trouble why)) = EndsBehind faultless sure file file_now (Err (Trouble why)) × (faults_now ≡ faults)
Ends faultless sure file file_now faults faults_now (Err DoorRefused) = (file_now ≡ file) × Rose faults faults_now
Ends faultless sure file file_now faults faults_now (Err DoorFailed) = EndsBehind faultless sure file file_now (Err DoorFailed) × Rose faults faults_now

-- what a refused opening of a project comes to
abbrev pub open_trouble : OpenFault → declared.Trouble
open_trouble (fault.BadEntry number) = trouble.BadEntry number
open_trouble fault.Keeper = trouble.DiskFailed
open_trouble fault.Memory = trouble.Memory
