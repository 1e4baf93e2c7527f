-- Why a run does not do its job: the line that says so on the complaint sink, and the status.
use Rattle.std.specs.Prelude.{◌≡◌, ℕ, ◌⊎◌, Bool, List, [], ◌∷◌, ◌++◌, Option, Some, None, codes, decimal, if◌then◌else◌, Result, Ok, Err}
use Rattle.std.specs.Option.{option_map_or}
use Rattle.std.specs.Io.KnownBytes.{Appends}
use Rattle.mark_base.specs.Streams.{AppendsFront, Rose}
use Rattle.conf_model.specs.declared.conf_fault.ConfWhat.{ConfWhat}
use Rattle.conf_model.specs.ConfFaultNames.{conf_name}
use Rattle.ann_reader.specs.declared.ann_fault.AnnWhat.{AnnWhat}
use Rattle.ann_reader.specs.declared.ann_fault.AnnWhat.TheVariants as ann
use Rattle.layer_model.specs.Rules.{rule_name}
use Rattle.token_columns.specs.declared.column_fault.ColumnWhat.{ColumnWhat}
use Rattle.token_columns.specs.declared.column_fault.ColumnWhat.TheVariants as columns
use Rattle.token_columns.specs.declared.column_fault.ColumnOut.{ColumnOut}
use Rattle.token_columns.specs.declared.column_fault.ColumnOut.TheVariants as out
use Rattle.token_columns.specs.FaultNames.{out_name}
use Rattle.mark_base.specs.declared.ann_id.AnnId.{AnnId}
use Rattle.layer_rules.specs.CarriedByRule.{id_text}
use Rattle.project_machine.specs.declared.roster_fault.RosterFault.{RosterFault}
use Rattle.project_machine.specs.declared.roster_fault.RosterFault.TheVariants as people
use Rattle.roster_file.specs.declared.roster_read.RosterRead.{RosterRead}
use Rattle.roster_file.specs.declared.roster_read.RosterRead.TheVariants as roster
use Rattle.program_inputs.specs.declared.trouble.Trouble.{Trouble}
use Rattle.project_machine.specs.declared.book_refusal.BookRefusal.{BookRefusal}
use Rattle.http_answers.specs.AnswerBodies.Refusals.{name_of}
use Rattle.program_inputs.specs.declared.trouble.Trouble.TheVariants.{Usage, Conf, Ann, Columns, ColumnsOut, Roster, TextNotUtf8, TextTooLong, FileAbsent, FileTooLong, FileFailed, NotAJournal, NewerVersion, Damaged, AlreadyThere, BookTooLong, BadEntry, Refused, DiskInUse, DiskFailed, DoorFailed, Cut, BadHead, NeedsLength, TooLarge, Encoded, Spent, ReadFault, WriteFault, Memory}

-- what is said of a fault of an .ann file: its name, and the place or the rule that it carries
abbrev pub ann_name : AnnWhat → List ℕ
ann_name ann.NotUtf8 = codes "NotUtf8"
ann_name ann.BadLine = codes "BadLine"
ann_name ann.BadId = codes "BadId"
ann_name ann.IdTwice = codes "IdTwice"
ann_name (ann.WrongText place) = codes "WrongText " ++ decimal place
ann_name (ann.Broken broken) = codes "Broken " ++ rule_name broken

-- what is said of a fault of a column file: its name, and the place that it carries
abbrev pub column_name : ColumnWhat → List ℕ
column_name columns.NotUtf8 = codes "NotUtf8"
column_name columns.BadLine = codes "BadLine"
column_name columns.TooMany = codes "TooMany"
column_name (columns.WrongToken place) = codes "WrongToken " ++ decimal place
column_name columns.UnknownType = codes "UnknownType"
column_name columns.NotForUse = codes "NotForUse"
column_name columns.Orphan = codes "Orphan"
column_name columns.TooLong = codes "TooLong"
column_name columns.Full = codes "Full"
column_name columns.TooFew = codes "TooFew"

-- the line of a fault of a file, as `conf line 3: NameTwice`
abbrev pub at_line : List ℕ → ℕ → List ℕ → List ℕ
at_line file line name = file ++ (codes " line " ++ (decimal line ++ (codes ": " ++ (name ++ codes "\n"))))

-- a line of a label and a number, as `journal: NewerVersion 9`
abbrev pub with_number : List ℕ → ℕ → List ℕ
with_number label number = label ++ (decimal number ++ codes "\n")

-- what a refusal names, behind a space, or nothing
abbrev pub behind_space : List ℕ → List ℕ
behind_space [] = []
behind_space (byte ∷ bytes) = codes " " ++ (byte ∷ bytes)

-- the line of what a project or a desk refuses, as `refused: DocumentThere` and `refused: TooFew E1 Who`
abbrev pub refused_line : BookRefusal → (named : List ℕ) → List ℕ
refused_line refusal named = codes "refused: " ++ (name_of refusal ++ (behind_space named ++ codes "\n"))

-- the line of a layer that columns do not show, as `columns: Shared T2`
abbrev pub with_id : List ℕ → AnnId → List ℕ
with_id name id = codes "columns: " ++ (name ++ (codes " " ++ (id_text id ++ codes "\n")))

-- the same, with the annotation at fault where one is
abbrev pub out_line : ColumnOut → List ℕ
out_line (out.OtherThere id) = with_id (out_name (out.OtherThere id)) id
out_line (out.Fragmented id) = with_id (out_name (out.Fragmented id)) id
out_line (out.Unaligned id) = with_id (out_name (out.Unaligned id)) id
out_line (out.Shared id) = with_id (out_name (out.Shared id)) id
out_line (out.Numbered id) = with_id (out_name (out.Numbered id)) id
out_line fault = codes "columns: " ++ (out_name fault ++ codes "\n")

-- the line of a fault of a row of a roster, as `roster row 2: BadRole`
abbrev pub at_row : ℕ → List ℕ → List ℕ
at_row row name = codes "roster row " ++ (decimal row ++ (codes ": " ++ (name ++ codes "\n")))

-- the line of people that make no roster, as `roster: NameTwice 2`
abbrev pub people_line : RosterFault → List ℕ
people_line (people.NameTwice number) = with_number (codes "roster: NameTwice ") number
people_line people.TooMany = codes "roster: TooMany\n"
people_line people.Lacking = codes "roster: Lacking\n"
people_line people.Memory = []

-- the line of the first fault of a roster
abbrev pub roster_line : RosterRead → List ℕ
roster_line (roster.BadRow row) = at_row row (codes "BadRow")
roster_line (roster.BadName row) = at_row row (codes "BadName")
roster_line (roster.BadRole row) = at_row row (codes "BadRole")
roster_line (roster.Roster fault) = people_line fault
roster_line roster.Memory = []

-- the line of a trouble that carries nothing
abbrev pub fixed_line : Trouble → Option (List ℕ)
fixed_line Usage = Some (codes "usage\n")
fixed_line (Conf line what) = None
fixed_line (Ann line what) = None
fixed_line (Columns line what) = None
fixed_line (ColumnsOut fault) = None
fixed_line (Roster fault) = None
fixed_line TextNotUtf8 = Some (codes "text: NotUtf8\n")
fixed_line TextTooLong = Some (codes "text: TooLong\n")
fixed_line FileAbsent = Some (codes "file: Absent\n")
fixed_line FileTooLong = Some (codes "file: TooLong\n")
fixed_line FileFailed = Some (codes "file: Failed\n")
fixed_line NotAJournal = Some (codes "journal: NotAJournal\n")
fixed_line (NewerVersion version) = None
fixed_line (Damaged number) = None
fixed_line (AlreadyThere length) = None
fixed_line (BookTooLong bytes) = None
fixed_line (BadEntry number) = None
fixed_line (Refused refusal named) = None
fixed_line DiskInUse = Some (codes "disk: InUse\n")
fixed_line DiskFailed = Some (codes "disk: Failed\n")
fixed_line DoorFailed = Some (codes "door: Failed\n")
fixed_line Cut = Some (codes "input: Cut\n")
fixed_line BadHead = Some (codes "input: BadHead\n")
fixed_line NeedsLength = Some (codes "input: NeedsLength\n")
fixed_line TooLarge = Some (codes "input: TooLarge\n")
fixed_line Encoded = Some (codes "input: Encoded\n")
fixed_line Spent = Some (codes "input: Spent\n")
fixed_line ReadFault = Some (codes "input: ReadFault\n")
fixed_line WriteFault = Some (codes "output: WriteFault\n")
fixed_line Memory = Some (codes "memory\n")

-- the line of a trouble that carries where or what it is
abbrev pub made_line : Trouble → List ℕ
made_line (Conf line what) = at_line (codes "conf") line (conf_name what)
made_line (Ann line what) = at_line (codes "ann") line (ann_name what)
made_line (Columns line what) = at_line (codes "columns") line (column_name what)
made_line (ColumnsOut fault) = out_line fault
made_line (Roster fault) = roster_line fault
made_line (NewerVersion version) = with_number (codes "journal: NewerVersion ") version
made_line (Damaged number) = with_number (codes "journal: Damaged ") number
made_line (AlreadyThere length) = with_number (codes "journal: AlreadyThere ") length
made_line (BookTooLong bytes) = with_number (codes "book: EntryTooLong ") bytes
made_line (BadEntry number) = with_number (codes "book: BadEntry ") number
made_line (Refused refusal named) = refused_line refusal named
made_line trouble = []

-- the line that says a trouble
abbrev pub line_of : Trouble → List ℕ
line_of trouble = option_map_or (λ line. line) (fixed_line trouble) (made_line trouble)

-- the status of a run that ends so; a command that looks for faults of files, as `verify` does, has one of its own for those
abbrev pub status_of : Bool → Trouble → ℕ
status_of verifies Usage = 2
status_of verifies (Conf line what) = if verifies then 1 else 3
status_of verifies (Ann line what) = if verifies then 1 else 3
status_of verifies (Columns line what) = 3
status_of verifies (ColumnsOut fault) = 3
status_of verifies (Roster fault) = 3
status_of verifies TextNotUtf8 = 3
status_of verifies TextTooLong = 3
status_of verifies FileAbsent = 3
status_of verifies FileTooLong = 3
status_of verifies FileFailed = 4
status_of verifies NotAJournal = 3
status_of verifies (NewerVersion version) = 3
status_of verifies (Damaged number) = 3
status_of verifies (AlreadyThere length) = 3
status_of verifies (BookTooLong bytes) = 3
status_of verifies (BadEntry number) = 3
status_of verifies (Refused refusal named) = 3
status_of verifies DiskInUse = 4
status_of verifies DiskFailed = 4
status_of verifies DoorFailed = 5
status_of verifies Cut = 3
status_of verifies BadHead = 3
status_of verifies NeedsLength = 3
status_of verifies TooLarge = 3
status_of verifies Encoded = 3
status_of verifies Spent = 3
status_of verifies ReadFault = 5
status_of verifies WriteFault = 6
status_of verifies Memory = 7

-- the line of a trouble was written whole, with its status and no fault of a write, or a front of it, with the status 6 and a counted fault of the write
abbrev pub Says : Bool → Trouble → Option (List ℕ) → Option (List ℕ) → ℕ → ℕ → ℕ → Type 0
Says verifies trouble old new before now status =
    (Appends old new (line_of trouble) × (status ≡ status_of verifies trouble) × (now ≡ before))
    ⊎ (AppendsFront old new (line_of trouble) × (status ≡ 6) × Rose before now)

-- a trouble was said; a line that carries where or what it is may want memory, and then that is said
abbrev pub Complains : Bool → Trouble → Option (List ℕ) → Option (List ℕ) → ℕ → ℕ → ℕ → Type 0
Complains verifies trouble old new before now status =
    Says verifies trouble old new before now status ⊎ ((fixed_line trouble ≡ None) × Says verifies Memory old new before now status)

-- a run that has done its job says nothing
abbrev pub Ends : Bool → Result (Unit {0}) Trouble → Option (List ℕ) → Option (List ℕ) → ℕ → ℕ → ℕ → Type 0
Ends verifies (Ok done) old new before now status = (new ≡ old) × (status ≡ 0)
Ends verifies (Err trouble) old new before now status = Complains verifies trouble old new before now status
