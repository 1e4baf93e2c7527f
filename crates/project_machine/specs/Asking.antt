-- What a book answers and keeps, and what a visitor of it sees.
use Rattle.std.specs.Prelude.{◌≡◌, ◌≢◌, ◌⊎◌, ℕ, ◌+◌, ◌<◌, ◌≤◌, Bool, true, List, [], ◌∷◌, ◌++◌, length, nat_lt, Option, Some, None, IsSome, IfSome, option_map, if◌then◌else◌}
use Rattle.std.specs.Option.{option_to_list}
use Rattle.std.specs.List.{All}
use Rattle.std.specs.List.Sorted.{IsStrictlyIncreasing}
use Rattle.mark_base.specs.Streams.{Rose}
use Rattle.entry_bytes.specs.Entries.{entry_bytes}
use Rattle.project_journal.specs.Keeper.{IsKeptOrDoubt, IsKeptOrOneMore}
use Rattle.project_machine.specs.declared.book_refusal.BookRefusal.TheVariants as no
use Rattle.project_machine.specs.Requests.{Asked, Answered, Refused, Happened}
use Rattle.project_machine.specs.Entries.{entry_of}
use Rattle.project_machine.specs.Machine.{Step, step}
use Rattle.project_machine.specs.History.{after, begin, last, encoded}
use Rattle.project_machine.specs.Legal.{IsLegal, HasRoom}

-- the step that a history makes of a request
abbrev pub step_at : List Happened → List ℕ → Asked → Step
step_at log caller asked = step (after log) caller asked

-- the history behind the step of a request
abbrev pub stepped_on : List Happened → List ℕ → Asked → List Happened
stepped_on log caller asked = log ++ option_to_list (step_at log caller asked).change

-- one request of a book: its step; or memory ran out, or a change was not kept, and then nothing happened; where a change is handed to the keeper, the history has room for it
pub data IsStep (log : List Happened) (caller : List ℕ) (asked : Asked) (answer : Answered) (now : List Happened) : Type 0 where
  steps : answer ≡ (step_at log caller asked).answer → now ≡ stepped_on log caller asked → (IsSome (step_at log caller asked).change → HasRoom now) → IsStep log caller asked answer now
  wants_memory : answer ≡ Refused no.Memory [] → now ≡ log → IsStep log caller asked answer now
  is_not_kept : answer ≡ Refused no.Keeper [] → now ≡ log → IsSome (step_at log caller asked).change → HasRoom (stepped_on log caller asked) → IsStep log caller asked answer now

-- ---- what a keeper keeps of a history

-- the bytes of the entry of a change behind a history
abbrev pub entry_behind : List Happened → Happened → List ℕ
entry_behind log change = entry_bytes (entry_of (after log) change)

-- the entry of the change that a request makes, if it makes one
abbrev pub own_entry : List Happened → List ℕ → Asked → Option (List ℕ)
own_entry log caller asked = option_map (entry_behind log) (step_at log caller asked).change

-- some bytes are the entry of a change that could be the next of a history
pub record IsNext (log : List Happened) (bytes : List ℕ) : Type 0 where
  pub change : Happened
  pub legal : IsLegal (log ++ change ∷ [])
  pub entry : bytes ≡ entry_behind log change

-- what a keeper tells of a history between two requests, where it tells: its entries, and one in doubt that could be the next
pub record IsKeptBy (log : List Happened) (kept : Option (List (List ℕ))) (doubt : Option (List ℕ)) : Type 0 where
  pub entries : IfSome kept (λ told. told ≡ encoded log)
  pub next : IfSome doubt (IsNext log)

-- what a stop between two requests leaves of a history: its entries, alone or with the one in doubt
abbrev pub IsLeft : List Happened → Option (List ℕ) → Option (List (List ℕ)) → Type 0
IsLeft log doubt found = IsKeptOrDoubt (encoded log) doubt found

-- what a stop leaves while a change of this entry is kept, or none: the entries from before, alone or with one more, which is the one in doubt or this one
abbrev pub IsLeftWith : Option (List ℕ) → List Happened → Option (List ℕ) → Option (List (List ℕ)) → Type 0
IsLeftWith None log doubt found = IsLeft log doubt found
IsLeftWith (Some own) log doubt found = IsKeptOrOneMore (encoded log) doubt own found

-- what a stop at any moment of a request leaves, of the history and the entry in doubt from before it: where the request makes nothing happen, nothing else than before
abbrev pub IsLeftByAsk : List Happened → Option (List ℕ) → List ℕ → Asked → Option (List (List ℕ)) → Type 0
IsLeftByAsk log doubt caller asked found = IsLeftWith (own_entry log caller asked) log doubt found

-- an entry in doubt stayed, or none is in doubt
abbrev pub StaysOrGoes : Option (List ℕ) → Option (List ℕ) → Type 0
StaysOrGoes old new = (new ≡ old) ⊎ (new ≡ None)

-- the entry in doubt behind a request: none where its change was kept; where it was not, the old one, none, or that of the change; else the old one or none
pub record IsDoubted (log : List Happened) (caller : List ℕ) (asked : Asked) (answer : Answered) (now : List Happened) (old new : Option (List ℕ)) : Type 0 where
  pub kept : (change : Happened) → now ≡ log ++ change ∷ [] → new ≡ None
  pub not_kept : answer ≡ Refused no.Keeper [] → StaysOrGoes old new ⊎ (new ≡ own_entry log caller asked)
  pub otherwise : answer ≢ Refused no.Keeper [] → StaysOrGoes old new

-- ---- a visitor

-- the place of a visitor's own change, if it made one
abbrev pub gained : List Happened → List Happened → List ℕ
gained before now = if nat_lt (length before) (length now) then last now ∷ [] else []

-- a visitor that has seen a history is answered behind what others did since: what it sees grows by that and by its own change, whose place it makes its own
pub record Replied (seen : List Happened) (mine : List ℕ) (caller : List ℕ) (asked : Asked) (answer : Answered) (now : List Happened) (mine_now : List ℕ) : Type 0 where
  pub others : List Happened
  pub stepped : IsStep (seen ++ others) caller asked answer now
  pub mine_is : mine_now ≡ mine ++ gained (seen ++ others) now

-- what a visitor tells: the changes that it has seen, the places of its own, how many faults it met and whether the count behind that stands at its last value, numbers that no call changes, and how often it may still ask
pub record Visiting : Type 0 where
  pub seen : List Happened
  pub mine : List ℕ
  pub faults : ℕ
  pub spent : Bool
  pub badge : List ℕ
  pub room : ℕ

-- a place of a visitor's own lies within what it has seen
abbrev pub LiesWithin : List Happened → ℕ → Type 0
LiesWithin seen place = (begin seen < place) × (place ≤ last seen)

-- what a visitor has seen has room, and its own places ascend and lie within that
pub record IsVisiting (v : Visiting) : Type 0 where
  pub short : HasRoom v.seen
  pub ascending : IsStrictlyIncreasing v.mine
  pub within : All (LiesWithin v.seen) v.mine

-- a fault of the keeper was counted, or the count behind stands at its last value
abbrev pub IsCounted : Visiting → Visiting → Type 0
IsCounted old new = Rose old.faults new.faults ⊎ (new.spent ≡ true)

-- one request of a visitor
pub record Visited (old new : Visiting) (caller : List ℕ) (asked : Asked) (answer : Answered) : Type 0 where
  pub replied : Replied old.seen old.mine caller asked answer new.seen new.mine
  pub room : new.room + 1 ≡ old.room
  pub badge : new.badge ≡ old.badge
  pub later : old.faults ≤ new.faults
  pub cause : answer ≡ Refused no.Keeper [] → IsCounted old new
  pub stays_spent : old.spent ≡ true → new.spent ≡ true
  pub legal : IsLegal old.seen → IsLegal new.seen
  pub short : HasRoom old.seen → HasRoom new.seen

-- from where no fault can come none comes: the keeper is not at fault in any answer, the count stands, and it stays so
abbrev pub StaysFaultless : Type 0 → Type 0 → Visiting → Visiting → Answered → Type 0
StaysFaultless was is old new answer = was → is × (new.faults ≡ old.faults) × (answer ≢ Refused no.Keeper [])
