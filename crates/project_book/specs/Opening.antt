-- What opening the entries of a journal answers.
use Rattle.std.specs.Prelude.{◌≡◌, ℕ, ◌-◌, List, [], get_or, slice_get, take, Some, Result, Ok, Err, ⊤}
use Rattle.checkpoint.specs.Runs.{IsFault}
use Rattle.project_machine.specs.History.{encoded}
use Rattle.project_machine.specs.Legal.{IsLegal}
use Rattle.project_machine.specs.Opening.{IsBadEntry, IsOpened}
use Rattle.project_machine.specs.Requests.{Happened}
use Rattle.project_book.specs.declared.open_fault.OpenFault.{OpenFault}
use Rattle.project_book.specs.declared.open_fault.OpenFault.TheVariants as fault
use Rattle.project_book.specs.Keeping.{BookValue}

-- entries are opened as no other history
abbrev pub IsOnlyOpened : List (List ℕ) → List Happened → Type 0
IsOnlyOpened entries opened = (other : List Happened) → IsOpened entries other → other ≡ opened

-- entries begin with the first piece of a checkpoint: the first byte of the first is 16
abbrev pub BeginsWithPiece : List (List ℕ) → Type 0
BeginsWithPiece entries = slice_get (get_or entries 0 []) 0 ≡ Some 16

-- entries are those of a history
pub record AreOfHistory (entries : List (List ℕ)) : Type 0 where
  pub log : List Happened
  pub legal : IsLegal log
  pub told : entries ≡ encoded log

-- the entry of this number, from 1, is the first at fault: of a checkpoint the first piece that is not read, or the one past the last where its last piece is lacking; elsewhere the first with which no history goes on from the entries before it, or 1 where there is none
pub data IsEntryAtFault (entries : List (List ℕ)) (n : ℕ) : Type 0 where
  of_pieces : BeginsWithPiece entries → IsFault entries n → IsEntryAtFault entries n
  of_changes : (BeginsWithPiece entries → AreOfHistory (take (n - 1) entries)) → IsBadEntry entries n → IsEntryAtFault entries n

-- why entries are not opened: the entry of a number, from 1, is the first at fault; or the keeper failed, or memory ran out
abbrev pub IsOpenRefusal : List (List ℕ) → OpenFault → Type 0
IsOpenRefusal entries (fault.BadEntry number) = IsEntryAtFault entries number
IsOpenRefusal entries fault.Keeper = ⊤
IsOpenRefusal entries fault.Memory = ⊤

-- the keeper behind an opening, of the book or given back
abbrev pub opened_keeper : {K : Type 0} → Result (BookValue K) (K × OpenFault) → K
opened_keeper (Ok book) = book.keeper
opened_keeper (Err back) = back.0

-- an opening was refused for its keeper
abbrev pub OpeningFailed : {K : Type 0} → Result (BookValue K) (K × OpenFault) → Type 0
OpeningFailed (Ok book) = ⊥
OpeningFailed (Err back) = back.1 ≡ fault.Keeper
