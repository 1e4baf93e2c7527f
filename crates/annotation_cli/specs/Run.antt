-- What a run of the program does, by its words.
use Rattle.std.specs.Prelude.{◌≡◌, ◌≢◌, ◌⊎◌, ℕ, Bool, true, false, List, Option, Some, None, Result, Err, MatchResult}
use Rattle.named_disks.specs.NamedDisks.{KeepsNames, Stored, reads_as}
use Rattle.program_inputs.specs.declared.trouble.Trouble.{Trouble}
use Rattle.program_inputs.specs.declared.trouble.Trouble.TheVariants.{Memory, Usage}
use Rattle.program_inputs.specs.Troubles.{Ends}
use Rattle.project_commands.specs.Commands.Trying.{TryTold}
use Rattle.annotation_cli.specs.Help.{HelpTold, VersionTold}
use Rattle.annotation_cli.specs.Printing.{Prints}
use Rattle.demo_project.specs.Demos.{DemoTold}
use Rattle.program_inputs.specs.ProjectFiles.ProjectFiles.{NotOpened}
use Rattle.project_commands.specs.Founding.{Founds, NotFounded}
use Rattle.project_commands.specs.Adding.{Adds, NotAdded}
use Rattle.project_commands.specs.Importing.{Imports, NotImported}
use Rattle.project_commands.specs.Showing.{Agrees, Exports, NoSnapshot, NotAgreed, NotExported, ShowsSnapshot}
use Rattle.project_commands.specs.Reporting.{PrintsProgress, PrintsSnapshots}
use Rattle.project_commands.specs.Scoring.{NotScored, PrintsScores}
use Rattle.project_commands.specs.Sessions.{SessionTold}
use Rattle.command_words.specs.Asked.{BookCommand, Found, Add, Import, Export, ColumnsOut, Agree, Scores, Progress, Snapshots, Curated, Command, Help, Version, Try, Verify, ColumnsIn, Compact, Demo, Session, OnBook, IsChangedBy, command_of}
use Rattle.annotation_cli.specs.ColumnsIn.{ColumnsTold}
use Rattle.project_commands.specs.ColumnsOut.{NoColumns, PrintsColumns}
use Rattle.project_commands.specs.Compacting.{Compacts, NotCompacted}
use Rattle.annotation_cli.specs.Verify.{VerifyTold}

-- what the devices of a run tell at a moment: how many reads of the folder failed, what is left in the console and what it holds, and what the disks store
pub record Told : Type 0 where
  pub folder_faults : ℕ
  pub left : Option (List ℕ)
  pub held : Option (List ℕ)
  pub stored : Option Stored

-- words that are no command
abbrev pub IsNoCommand : (old new : Told) → Result (Unit {0}) Trouble → Type 0
IsNoCommand old new done = (done ≡ Err Usage) × (new.left ≡ old.left) × (new.held ≡ old.held)

-- there was no memory to read the words
abbrev pub NotRead : (old new : Told) → Result (Unit {0}) Trouble → Type 0
NotRead old new done = (done ≡ Err Memory) × (new.left ≡ old.left) × (new.held ≡ old.held)

-- what a command on the project of a file found to print, or why it found nothing
abbrev pub Finds : (file : List ℕ → Option (Option (List ℕ))) → BookCommand → (before now : ℕ) → (stored stored_now : Option Stored) → Result (List ℕ) Trouble → Type 0
Finds file (Found book conf roster level) before now stored stored_now found =
    MatchResult found (Founds (file conf) (file roster) level (reads_as stored_now book)) (NotFounded (file conf) (file roster) level (reads_as stored book) before now)
Finds file (Add book caller name text) before now stored stored_now found =
    MatchResult found (Adds (reads_as stored book) (reads_as stored_now book) (file text) caller name) (NotAdded (reads_as stored book) (file text) caller name before now)
Finds file (Import book who name ann) before now stored stored_now found =
    MatchResult found (Imports (reads_as stored book) (reads_as stored_now book) who name (file ann)) (NotImported (reads_as stored book) who name (file ann) before now)
Finds file (Export book who name) before now stored stored_now found =
    MatchResult found (Exports (reads_as stored book) who name) (NotExported (reads_as stored book) who name)
Finds file (ColumnsOut book who name) before now stored stored_now found =
    MatchResult found (PrintsColumns (reads_as stored book) who name) (NoColumns (reads_as stored book) who name)
Finds file (Agree book) before now stored stored_now found = MatchResult found (Agrees (reads_as stored book)) (NotAgreed (reads_as stored book))
Finds file (Scores book) before now stored stored_now found = MatchResult found (PrintsScores (reads_as stored book)) (NotScored (reads_as stored book))
Finds file (Progress book) before now stored stored_now found = MatchResult found (PrintsProgress (reads_as stored book)) (NotOpened (reads_as stored book))
Finds file (Snapshots book) before now stored stored_now found = MatchResult found (PrintsSnapshots (reads_as stored book)) (NotOpened (reads_as stored book))
Finds file (Curated book number) before now stored stored_now found =
    MatchResult found (ShowsSnapshot (reads_as stored book) number) (NoSnapshot (reads_as stored book) number)

-- a command on the project of a file: what it found was printed; the console is not read
pub record Shows (file : List ℕ → Option (Option (List ℕ))) (command : BookCommand) (old new : Told) (done : Result (Unit {0}) Trouble) : Type 0 where
  pub found : Result (List ℕ) Trouble
  pub finds : Finds file command old.folder_faults new.folder_faults old.stored new.stored found
  pub prints : Prints found old.held new.held done
  pub unread : new.left ≡ old.left

-- a project was compacted into another file, and its place was printed; the console is not read
pub record ShowsCompact (book made : List ℕ) (old new : Told) (done : Result (Unit {0}) Trouble) : Type 0 where
  pub found : Result (List ℕ) Trouble
  pub finds : MatchResult found (Compacts (reads_as old.stored book) (reads_as new.stored made)) (NotCompacted (reads_as old.stored book) (reads_as old.stored made))
  pub prints : Prints found old.held new.held done
  pub unread : new.left ≡ old.left

-- what the session of a number came to was printed, or there was no memory for it; the console is not read
pub record ShowsDemo (number : ℕ) (old new : Told) (done : Result (Unit {0}) Trouble) : Type 0 where
  pub found : Result (List ℕ) Trouble
  pub finds : MatchResult found (DemoTold number) (λ why. why ≡ Memory)
  pub prints : Prints found old.held new.held done
  pub unread : new.left ≡ old.left

-- what the command of the words came to; but for `try` and `session` the console is not read
abbrev pub Does : (file : List ℕ → Option (Option (List ℕ))) → Option Command → (faultless : Type 0) → (old new : Told) → Result (Unit {0}) Trouble → Type 0
Does file None faultless old new done = IsNoCommand old new done
Does file (Some Help) faultless old new done = HelpTold old.left new.left old.held new.held done
Does file (Some Version) faultless old new done = VersionTold old.left new.left old.held new.held done
Does file (Some (Try conf text)) faultless old new done = TryTold (file conf) (file text) old.folder_faults new.folder_faults old.left new.left old.held new.held done
Does file (Some (Verify conf text ann)) faultless old new done =
    VerifyTold (file conf) (file text) (file ann) old.folder_faults new.folder_faults old.held new.held done × (new.left ≡ old.left)
Does file (Some (ColumnsIn conf text columns)) faultless old new done =
    ColumnsTold (file conf) (file text) (file columns) old.folder_faults new.folder_faults old.held new.held done × (new.left ≡ old.left)
Does file (Some (Demo number)) faultless old new done = ShowsDemo number old new done
Does file (Some (Session book)) faultless old new done = SessionTold faultless (reads_as old.stored book) (reads_as new.stored book) old.left new.left old.held new.held done
Does file (Some (Compact book made)) faultless old new done = ShowsCompact book made old new done
Does file (Some (OnBook command)) faultless old new done = Shows file command old new done

-- the command looks for faults of files, and has a status of its own for those
abbrev pub looks_for_faults : Option Command → Bool
looks_for_faults (Some (Verify conf text ann)) = true
looks_for_faults (Some (OnBook (Import book who name ann))) = true
looks_for_faults other = false

-- each name but the file that the words' command may change is as before: what its disk reads as, whether there is one, and whether it is out
abbrev pub KeepsBut : Option Command → Option Stored → Option (List (List ℕ)) → Option Stored → Option (List (List ℕ)) → Type 0
KeepsBut command = KeepsNames (λ name. IsChangedBy command name → ⊥)

-- a run: what its command came to, and what it says of that on the complaint sink; there may be no memory to read its words
pub record Runs (file : List ℕ → Option (Option (List ℕ))) (words : List (List ℕ)) (faultless : Type 0) (old new : Told)
    (said_before said_now : Option (List ℕ)) (said_faults_before said_faults_now : ℕ) (status : ℕ) : Type 0 where
  pub done : Result (Unit {0}) Trouble
  pub does : Does file (command_of words) faultless old new done ⊎ NotRead old new done
  pub ends : Ends (looks_for_faults (command_of words)) done said_before said_now said_faults_before said_faults_now status
