-- What a project begins with.
use Rattle.std.specs.Prelude.{◌≡◌, ◌||◌, ℕ, Bool, true, false, List, [], ◌∷◌, length, nat_lt, Result, Ok, Err, ⊤}
use Rattle.entry_bytes.specs.declared.person.Person.{Person}
use Rattle.entry_bytes.specs.Entries.{entry_bytes}
use Rattle.conf_model.specs.Configurations.{Configuration}
use Rattle.conf_model.specs.ConfText.{conf_text}
use Rattle.label_tracks.specs.Levels.{grouping_of}
use Rattle.project_journal.specs.Keeper.{IsEntry}
use Rattle.project_machine.specs.Requests.{Happened, Founded}
use Rattle.project_machine.specs.Entries.{founding_entry}
use Rattle.project_machine.specs.History.{after}
use Rattle.project_machine.specs.Legal.{IsFounding}
use Rattle.project_machine.specs.ProjectState.{ProjectState}
use Rattle.project_state.specs.declared.change.Change.{Change}
use Rattle.project_state.specs.Values.{happened_of}
use Rattle.project_book.specs.declared.found_fault.FoundFault.{FoundFault}
use Rattle.project_book.specs.declared.found_fault.FoundFault.TheVariants as fault
use Rattle.project_book.specs.declared.founding.Beginning.{Beginning}
use Rattle.project_book.specs.Keeping.{AreTables, BookValue}

-- the bytes of the entry of a founding
abbrev pub founding_bytes : Configuration → ℕ → List Person → List ℕ
founding_bytes conf level people = entry_bytes (founding_entry (conf_text conf) people level)

-- a founding is too long for a journal: its entry, or the text of its configuration
abbrev pub is_too_long : Configuration → ℕ → List Person → Bool
is_too_long conf level people = nat_lt 16777216 (length (founding_bytes conf level people)) || nat_lt 4194304 (length (conf_text conf))

-- why a project is not founded: the founding is too long, and so many bytes are told; or the keeper failed, or memory ran out
abbrev pub IsFoundRefusal : Configuration → ℕ → List Person → FoundFault → Type 0
IsFoundRefusal conf level people (fault.EntryTooLong bytes) = (is_too_long conf level people ≡ true) × (bytes ≡ length (founding_bytes conf level people))
IsFoundRefusal conf level people fault.Keeper = ⊤
IsFoundRefusal conf level people fault.Memory = ⊤

-- the history of a project that was founded
abbrev pub founded : Configuration → ℕ → List Person → List Happened
founded conf level people = Founded conf level people ∷ []

-- the keeper behind a founding, of the book or given back
abbrev pub keeper_behind : {K : Type 0} → Result (BookValue K) (K × FoundFault) → K
keeper_behind (Ok book) = book.keeper
keeper_behind (Err back) = back.0

-- a founding was refused for its keeper
abbrev pub HasFailed : {K : Type 0} → Result (BookValue K) (K × FoundFault) → Type 0
HasFailed (Ok book) = ⊥
HasFailed (Err back) = back.1 ≡ fault.Keeper

-- why a founding is refused before the keeper is asked (private calls only)
abbrev pub IsEntryRefusal : Configuration → ℕ → List Person → FoundFault → Type 0
IsEntryRefusal conf level people (fault.EntryTooLong bytes) = (is_too_long conf level people ≡ true) × (bytes ≡ length (founding_bytes conf level people))
IsEntryRefusal conf level people fault.Keeper = ⊥
IsEntryRefusal conf level people fault.Memory = ⊤

-- the entry of a founding is made, or the founding is refused (private calls only)
abbrev pub IsEntryMade : Configuration → ℕ → List Person → Result (List ℕ) FoundFault → Type 0
IsEntryMade conf level people (Ok entry) = (entry ≡ founding_bytes conf level people) × (is_too_long conf level people ≡ false)
IsEntryMade conf level people (Err refused) = IsEntryRefusal conf level people refused

-- the parts of a beginning are those of a state, with the founding as a change and as an entry (private calls only)
pub record IsCompleted (s : ProjectState) (change : Change) (entry : List ℕ) (beginning : Beginning) : Type 0 where
  pub log : beginning.log ≡ happened_of change ∷ []
  pub state : beginning.state.state ≡ s
  pub groups : beginning.groups ≡ grouping_of s.conf.types s.level
  pub tables : AreTables s beginning.tables
  pub entry_is : beginning.entry ≡ entry

-- what a project begins with, before its founding is kept (private calls only)
pub record IsBeginning (conf : Configuration) (level : ℕ) (people : List Person) (beginning : Beginning) : Type 0 where
  pub founding : IsFounding conf level people
  pub log : beginning.log ≡ founded conf level people
  pub state : beginning.state.state ≡ after (founded conf level people)
  pub groups : beginning.groups ≡ grouping_of conf.types level
  pub tables : AreTables (after (founded conf level people)) beginning.tables
  pub entry : beginning.entry ≡ founding_bytes conf level people
  pub fits : is_too_long conf level people ≡ false
  pub is_entry : IsEntry beginning.entry
