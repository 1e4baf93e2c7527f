-- What a pass knows of a hall.
use Rattle.std.specs.Prelude.{◌≡◌, ℕ, Bool, true, false, List, [], Option, None}
use Rattle.project_machine.specs.Requests.{Happened}

-- what a pass knows: the history as far as it was seen and the shorter one of the last join, the places of its own changes, the faults that it met and whether the keeper's count stood at its last value, how often it may still ask, how many tickets it drew and which one it holds, the history and the keeper's count of the book that it has taken, how often it was split, for how many passes it stands, and whether it is the hall's first
pub record View : Type 0 where
  pub seen : List Happened
  pub shorter : List Happened
  pub mine : List ℕ
  pub faults : ℕ
  pub spent : Bool
  pub room : ℕ
  pub drawn : ℕ
  pub ticket : Option ℕ
  pub taken : Option (List Happened × ℕ)
  pub splits : ℕ
  pub stands_for : ℕ
  pub first : Bool

-- what the first pass of a hall knows: the history of the book that the hall was opened with
abbrev pub first_view : List Happened → View
first_view opening = record { seen = opening; shorter = []; mine = []; faults = 0; spent = false; room = 4294967296; drawn = 0; ticket = None; taken = None; splits = 0; stands_for = 1; first = true }

-- what one that was joined or learnt leaves: nothing
abbrev pub blank : View
blank = record { seen = []; shorter = []; mine = []; faults = 0; spent = false; room = 0; drawn = 0; ticket = None; taken = None; splits = 0; stands_for = 0; first = false }

-- no ticket is held, and no book
abbrev pub IsIdle : View → Type 0
IsIdle v = (v.ticket ≡ None) × (v.taken ≡ None)
