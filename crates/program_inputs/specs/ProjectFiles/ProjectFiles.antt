-- The file of a project: what it holds of a history, and why it is not made or opened.
use Rattle.std.specs.Prelude.{◌≡◌, ◌≢◌, ℕ, true, List, length, Option, Some, IfSome, ⊤}
use Rattle.entry_bytes.specs.declared.person.Person.{Person}
use Rattle.conf_model.specs.Configurations.{Configuration}
use Rattle.project_journal.specs.declared.journal_fault.JournalFault.{JournalFault}
use Rattle.project_journal.specs.declared.journal_fault.JournalFault.TheVariants as journal
use Rattle.project_journal.specs.JournalFile.{opened}
use Rattle.project_journal.specs.Opening.{Refuses}
use Rattle.project_machine.specs.Requests.{Happened}
use Rattle.project_machine.specs.History.{encoded}
use Rattle.project_machine.specs.Opening.{IsOpened}
use Rattle.project_book.specs.Founding.{founding_bytes, is_too_long}
use Rattle.project_book.specs.Opening.{IsEntryAtFault}
use Rattle.program_inputs.specs.declared.trouble.Trouble.{Trouble}
use Rattle.program_inputs.specs.declared.trouble.Trouble.TheVariants.{AlreadyThere, BadEntry, BookTooLong, Damaged, DiskFailed, DiskInUse, Memory, NewerVersion, NotAJournal}

-- a file, where it is told, is the journal of a history
abbrev pub IsFileOf : Option (List ℕ) → List Happened → Type 0
IsFileOf file log = IfSome file (λ bytes. opened bytes ≡ Some (encoded log))

-- a file, where it is told, is a journal with these entries
abbrev pub HasEntries : Option (List ℕ) → List (List ℕ) → Type 0
HasEntries file entries = IfSome file (λ bytes. opened bytes ≡ Some entries)

-- a file is opened as a history: its entries are those of one, with a freeing where some layer was out
pub record OpensAs (file : Option (List ℕ)) (log : List Happened) : Type 0 where
  pub entries : List (List ℕ)
  pub read : HasEntries file entries
  pub history : IsOpened entries log

-- the entry of a number is the first at fault in a file
pub record HasBadEntry (file : Option (List ℕ)) (number : ℕ) : Type 0 where
  pub entries : List (List ℕ)
  pub read : HasEntries file entries
  pub fault : IsEntryAtFault entries number

-- why the disk of a name is not handed out where one is made of a name that is not there: another process has it; or it failed, or memory ran out
abbrev pub NotTaken : Trouble → Type 0
NotTaken DiskInUse = ⊤
NotTaken DiskFailed = ⊤
NotTaken Memory = ⊤
NotTaken why = ⊥

-- why a file is not opened: it is no journal, or of another version, or damaged; or an entry is at fault; or another process has it, or a disk failed, or memory ran out
abbrev pub NotOpened : Option (List ℕ) → Trouble → Type 0
NotOpened file NotAJournal = IfSome file (λ bytes. Refuses bytes journal.NotAJournal)
NotOpened file (NewerVersion version) = IfSome file (λ bytes. Refuses bytes (journal.NewerVersion version))
NotOpened file (Damaged number) = IfSome file (λ bytes. Refuses bytes (journal.Damaged number))
NotOpened file (BadEntry number) = HasBadEntry file number
NotOpened file DiskInUse = ⊤
NotOpened file DiskFailed = ⊤
NotOpened file Memory = ⊤
NotOpened file why = ⊥

-- why a project is not founded in a file: the file has bytes already, so many; or the founding is too long; or another process has the file, or a disk failed, or memory ran out
abbrev pub NotMade : Option (List ℕ) → Configuration → ℕ → List Person → Trouble → Type 0
NotMade file conf level people (AlreadyThere bytes) = (bytes ≢ 0) × IfSome file (λ found. bytes ≡ length found)
NotMade file conf level people (BookTooLong bytes) = (is_too_long conf level people ≡ true) × (bytes ≡ length (founding_bytes conf level people))
NotMade file conf level people DiskInUse = ⊤
NotMade file conf level people DiskFailed = ⊤
NotMade file conf level people Memory = ⊤
NotMade file conf level people why = ⊥

-- why a file does not become a journal of given entries: it has bytes already, so many; or another process has it, or a disk failed, or memory ran out
abbrev pub NotBegun : Option (List ℕ) → Trouble → Type 0
NotBegun file (AlreadyThere bytes) = (bytes ≢ 0) × IfSome file (λ found. bytes ≡ length found)
NotBegun file DiskInUse = ⊤
NotBegun file DiskFailed = ⊤
NotBegun file Memory = ⊤
NotBegun file why = ⊥

-- what a fault of a journal comes to
abbrev pub trouble_of : JournalFault → Trouble
trouble_of journal.NotAJournal = NotAJournal
trouble_of (journal.NewerVersion version) = NewerVersion version
trouble_of journal.Disk = DiskFailed
trouble_of (journal.Damaged number) = Damaged number
trouble_of (journal.AlreadyThere bytes) = AlreadyThere bytes
trouble_of journal.Memory = Memory
