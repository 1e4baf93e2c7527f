-- How a history is told again by its entries, one after another (private calls only).
use Rattle.std.specs.Prelude.{◌≡◌, ◌≢◌, ℕ, List, [], ◌∷◌, ◌++◌, Bool, true, false, Option, Some, None, ⊤}
use Rattle.std.specs.Arc.{arc_value}
use Rattle.entry_bytes.specs.declared.entry.Entry.{Entry}
use Rattle.entry_bytes.specs.Entries.{entry_bytes, IsEntry}
use Rattle.project_machine.specs.Asking.{entry_behind}
use Rattle.project_machine.specs.AskedFor.{asked_for}
use Rattle.project_machine.specs.Machine.{step}
use Rattle.project_machine.specs.History.{after, encoded}
use Rattle.project_machine.specs.Legal.{IsFounding, IsLegal}
use Rattle.project_machine.specs.Opening.{IsReplay, freeing_bytes}
use Rattle.project_machine.specs.ProjectState.{is_some_out}
use Rattle.project_machine.specs.Requests.{Asked, Happened, AllFreed}
use Rattle.project_state.specs.declared.entries.asking.Asking.{Asking}
use Rattle.project_state.specs.declared.entries.founding.Founding.{Founding}
use Rattle.project_state.specs.Entries.Asking.{plain_asking}
use Rattle.project_steps.specs.declared.steps.judging.Kept.{Kept}
use Rattle.project_steps.specs.Steps.Judging.{kept_happens}
use Rattle.project_book.specs.declared.open_fault.OpenFault.{OpenFault}
use Rattle.project_book.specs.declared.open_fault.OpenFault.TheVariants as fault
use Rattle.project_book.specs.Founding.{founded}
use Rattle.project_book.specs.Keeping.{BookValue, Follows}
use Rattle.project_book.specs.Opening.{IsEntryAtFault}

-- ---- one entry

-- a change that goes on with a history has this entry
pub record HasEntry (log : List Happened) (bytes : List ℕ) (change : Happened) : Type 0 where
  pub legal : IsLegal (log ++ change ∷ [])
  pub entry : bytes ≡ entry_behind log change

-- no change that goes on with a history has this entry
abbrev pub IsNoneNext : List Happened → List ℕ → Type 0
IsNoneNext log bytes = (change : Happened) → HasEntry log bytes change → ⊥

-- each change that goes on with a history and has this entry answers this request, or none
abbrev pub IsAskedBy : List Happened → List ℕ → Option (List ℕ × Asked) → Type 0
IsAskedBy log bytes asking = (change : Happened) → HasEntry log bytes change → asked_for (after log) change ≡ asking

-- each change that goes on with a history and has this entry is this one
abbrev pub IsOnlyNext : List Happened → List ℕ → Happened → Type 0
IsOnlyNext log bytes known = (change : Happened) → HasEntry log bytes change → change ≡ known

-- what bytes are read as: the entry whose bytes they are, or none where they are those of no entry
abbrev pub IsReading : List ℕ → Option Entry → Type 0
IsReading bytes None = (e : Entry) → IsEntry e → entry_bytes e ≡ bytes → ⊥
IsReading bytes (Some e) = IsEntry e × (entry_bytes e ≡ bytes)

-- who asked for the change that goes on with a history and has this entry, and for what; or no change has it
abbrev pub IsAskingOf : List Happened → List ℕ → Option Asking → Type 0
IsAskingOf log bytes None = IsNoneNext log bytes
IsAskingOf log bytes (Some asking) = IsAskedBy log bytes (Some (plain_asking asking))

-- the change that a request makes behind a history, as it is kept; or it makes none
abbrev pub IsMadeBy : List Happened → List ℕ × Asked → Option Kept → Type 0
IsMadeBy log asking None = (step (after log) asking.0 asking.1).change ≡ None
IsMadeBy log asking (Some kept) = ((step (after log) asking.0 asking.1).change ≡ Some (kept_happens kept)) × Follows log kept

-- the one change that goes on with a history and has this entry, as it is kept; or there is none
abbrev pub IsNextKept : List Happened → List ℕ → Option Kept → Type 0
IsNextKept log bytes None = IsNoneNext log bytes
IsNextKept log bytes (Some kept) = Follows log kept × (kept.entry ≡ bytes) × IsOnlyNext log bytes (kept_happens kept)

-- a freeing that goes on with a history where some layer is out
abbrev pub IsFreeing : List Happened → Option Kept → Type 0
IsFreeing log None = is_some_out (after log) ≡ false
IsFreeing log (Some kept) = Follows log kept × (kept.entry ≡ freeing_bytes) × (kept_happens kept ≡ AllFreed) × (is_some_out (after log) ≡ true)

-- a history went on with the one change of this entry, or there is none and it is as before
abbrev pub IsTakenUp : List Happened → List ℕ → List Happened → Bool → Type 0
IsTakenUp log bytes now true = (change : Happened) × HasEntry log bytes change × IsOnlyNext log bytes change × (now ≡ log ++ change ∷ [])
IsTakenUp log bytes now false = IsNoneNext log bytes × (now ≡ log)

-- ---- all entries

-- no history begins with this entry
abbrev pub IsNoBeginning : List ℕ → Type 0
IsNoBeginning bytes = (log : List Happened) (more : List (List ℕ)) → IsLegal log → bytes ∷ more ≢ encoded log

-- the founding of bytes, which begins each history that begins with them; or no history does
abbrev pub IsFoundingBy : List ℕ → Option Founding → Type 0
IsFoundingBy bytes None = IsNoBeginning bytes
IsFoundingBy bytes (Some founding) = IsFounding (arc_value founding.conf) founding.level founding.roster × IsReplay (bytes ∷ []) (founded (arc_value founding.conf) founding.level founding.roster)

-- an entry begins a history so: it is the whole entry of it, or no history begins with it
abbrev pub BeginsSo : {K : Type 0} → List ℕ → Option (BookValue K) → Type 0
BeginsSo bytes None = IsNoBeginning bytes
BeginsSo bytes (Some book) = IsReplay (bytes ∷ []) book.log

-- why entries are not told again: the entry of a number is at fault, or memory ran out
abbrev pub IsReplayRefusal : List (List ℕ) → OpenFault → Type 0
IsReplayRefusal entries (fault.BadEntry number) = IsEntryAtFault entries number
IsReplayRefusal entries fault.Keeper = ⊥
IsReplayRefusal entries fault.Memory = ⊤
