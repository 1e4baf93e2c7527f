-- What opening a file answers.
use Rattle.std.specs.Prelude.{◌≡◌, ◌≢◌, ℕ, ◌<◌, true, false, List, Option, Some, ⊤, take, length, slice_index}
use Rattle.project_journal.specs.JournalFile.{is_journal, version, is_known, damage}
use Rattle.project_journal.specs.RecordLaws.{AreEntries}
use Rattle.project_journal.specs.Settled.{IsFront}
use Rattle.project_journal.specs.declared.journal_fault.JournalFault.{JournalFault}
use Rattle.project_journal.specs.declared.journal_fault.JournalFault.TheVariants.{NotAJournal, NewerVersion, Disk, Damaged, AlreadyThere, Memory}

-- the file has these entries, and its last gate there
pub record Reads (file : List ℕ) (gate : ℕ) (entries : List (List ℕ)) : Type 0 where
  pub are : AreEntries entries
  pub front : IsFront (take gate file) entries
  pub within : gate < length file
  pub closed : slice_index file gate ≢ 1

-- the fault is the file's own, or want of memory
abbrev pub Refuses : List ℕ → JournalFault → Type 0
Refuses file NotAJournal = is_journal file ≡ false
Refuses file (NewerVersion n) = (is_journal file ≡ true) × (version file ≡ n) × (is_known n ≡ false)
Refuses file (Damaged k) = (is_journal file ≡ true) × (is_known (version file) ≡ true) × (damage file ≡ Some k)
Refuses file Memory = ⊤
Refuses file Disk = ⊥
Refuses file (AlreadyThere n) = ⊥

-- a fault of making a journal: the file has n bytes and not 0, or the disk failed, or memory was refused
abbrev pub RefusesNew : Option (List ℕ) → JournalFault → Type 0
RefusesNew holds (AlreadyThere n) = (n ≢ 0) × ((file : List ℕ) → holds ≡ Some file → n ≡ length file)
RefusesNew holds Disk = ⊤
RefusesNew holds Memory = ⊤
RefusesNew holds NotAJournal = ⊥
RefusesNew holds (NewerVersion n) = ⊥
RefusesNew holds (Damaged k) = ⊥
