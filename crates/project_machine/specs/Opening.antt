-- What opening a journal's entries gives, and which entry is at fault where they are no history's.
use Rattle.std.specs.Prelude.{◌≡◌, ◌≢◌, ◌⊎◌, ℕ, ◌+◌, ◌-◌, ◌<◌, ◌≤◌, List, [], ◌∷◌, ◌++◌, length, take, Option, Some, None, IfSome, true, if◌then◌else◌}
use Rattle.entry_bytes.specs.declared.entry.Entry.TheVariants as entry
use Rattle.entry_bytes.specs.Entries.{entry_bytes}
use Rattle.project_machine.specs.ProjectState.{ProjectState, is_some_out}
use Rattle.project_machine.specs.Requests.{Happened, AllFreed, Restored}
use Rattle.project_machine.specs.History.{after, encoded}
use Rattle.project_machine.specs.Legal.{IsLegal, HasRoom}

-- the history whose one change is a state that was restored, at the place of the state
abbrev pub restored : ProjectState → List Happened
restored s = Restored s.place s ∷ []

-- a history, and a freeing behind it where some layer is out
abbrev pub with_freeing : List Happened → List Happened
with_freeing log = if is_some_out (after log) then log ++ AllFreed ∷ [] else log

-- entries are opened as a history: they are those of one, in which a run of pieces is one restored state, and a freeing follows where some layer is out
pub record IsOpened (entries : List (List ℕ)) (opened : List Happened) : Type 0 where
  pub log : List Happened
  pub legal : IsLegal log
  pub told : entries ≡ encoded log
  pub freed : opened ≡ with_freeing log

-- a history goes on with another
abbrev pub GoesOn : List Happened → List Happened → Type 0
GoesOn log other = (rest : List Happened) × (other ≡ log ++ rest)

-- entries tell a history: they are its entries, and each history whose entries begin with them goes on with it
pub record IsReplay (entries : List (List ℕ)) (log : List Happened) : Type 0 where
  pub legal : IsLegal log
  pub told : entries ≡ encoded log
  pub only : (other : List Happened) (more : List (List ℕ)) → IsLegal other → entries ++ more ≡ encoded other → GoesOn log other

-- some history begins with these entries, which may end within a run of pieces
pub record IsBegun (entries : List (List ℕ)) : Type 0 where
  pub log : List Happened
  pub legal : IsLegal log
  pub more : List (List ℕ)
  pub told : entries ++ more ≡ encoded log

-- entries are those of no history
abbrev pub IsUnopened : List (List ℕ) → Type 0
IsUnopened entries = (log : List Happened) → IsLegal log → entries ≢ encoded log

-- the entry of this number, from 1, is the one at fault: the first that is not accepted behind those before it; or the one past the last, where no history has just these entries, as where a run of pieces lacks its end
pub data IsBadEntry (entries : List (List ℕ)) (n : ℕ) : Type 0 where
  is_not_accepted : 0 < n → n ≤ length entries → IsBegun (take (n - 1) entries) → (IsBegun (take n entries) → ⊥) → IsBadEntry entries n
  is_lacking : n ≡ length entries + 1 → IsBegun entries → IsUnopened entries → IsBadEntry entries n

-- ---- what a keeper keeps of an opening

-- the bytes of the entry of a freeing
abbrev pub freeing_bytes : List ℕ
freeing_bytes = entry_bytes entry.FreeAll

-- some layer is out behind the history of these entries
pub record IsToFree (entries : List (List ℕ)) : Type 0 where
  pub log : List Happened
  pub legal : IsLegal log
  pub told : entries ≡ encoded log
  pub out : is_some_out (after log) ≡ true

-- what a stop at any moment of an opening leaves, whatever it answers: the entries, alone or with a freeing where some layer is out
abbrev pub IsLeftByOpening : List (List ℕ) → Option (List (List ℕ)) → Type 0
IsLeftByOpening entries found = (found ≡ Some entries) ⊎ (IsToFree entries × (found ≡ Some (entries ++ freeing_bytes ∷ [])))

-- a freeing is in doubt behind an opening: some layer is out, and the keeper failed
pub record IsFreeingDoubted (entries : List (List ℕ)) (failed : Type 0) (doubt : Option (List ℕ)) : Type 0 where
  pub out : IsToFree entries
  pub cause : failed
  pub freeing : doubt ≡ Some freeing_bytes

-- what a keeper tells behind an opening that was refused, where it failed or not: the entries as they were, and in doubt nothing or the freeing
pub record IsGivenBack (entries : List (List ℕ)) (failed : Type 0) (kept : Option (List (List ℕ))) (doubt : Option (List ℕ)) : Type 0 where
  pub same : IfSome kept (λ told. told ≡ entries)
  pub doubtful : (doubt ≡ None) ⊎ IsFreeingDoubted entries failed doubt

-- what a keeper tells behind an opening: the entries of the history that it opened as, which has room, and nothing in doubt
pub record IsKeptOpen (opened : List Happened) (kept : Option (List (List ℕ))) (doubt : Option (List ℕ)) : Type 0 where
  pub all : IfSome kept (λ told. told ≡ encoded opened)
  pub certain : doubt ≡ None
  pub room : HasRoom opened
