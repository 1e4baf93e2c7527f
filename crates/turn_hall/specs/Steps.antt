-- What each step makes of a view, and what it tells.
use Rattle.std.specs.Prelude.{◌≡◌, ◌≢◌, ◌||◌, ℕ, ◌+◌, ◌-◌, ◌≤◌, nat_le, nat_lt, false, List, [], ◌∷◌, ◌++◌, length, Option, Some, None, if◌then◌else◌}
use mathlib.Core.List.{IsPrefix}
use Rattle.atomic_table.specs.Table.{Me}
use Rattle.project_machine.specs.Requests.{Happened}
use Rattle.project_machine.specs.Asking.{gained}
use Rattle.project_book.specs.Keeping.{BookValue}
use Rattle.turn_hall.specs.Views.{View}
use Rattle.turn_hall.specs.Counts.{ArePlacesOf}

-- ---- the three steps of a request

-- a ticket was drawn
abbrev pub drawing : View → (ticket : ℕ) → View
drawing v ticket = record v { room = v.room - 1; drawn = v.drawn + 1; ticket = Some ticket }

-- the book was taken, with this history and this count of its keeper's faults
abbrev pub taking : View → List Happened → ℕ → View
taking v log count = record v { taken = Some (log, count) }

-- the book was given back and the turn went on: the book as it was taken, and as it is given back
abbrev pub giving : View → List Happened → ℕ → List Happened → ℕ → View
giving v log count log_now count_now = record v { seen = log_now; shorter = []; mine = v.mine ++ gained log log_now; faults = v.faults + (count_now - count); spent = v.spent || nat_le 18446744073709551615 count_now; ticket = None; taken = None }

-- ---- passes that are made, and passes that meet

-- the longer of two beginnings of one history
abbrev pub longer : List Happened → List Happened → List Happened
longer xs ys = if nat_lt (length xs) (length ys) then ys else xs

-- the shorter of two beginnings of one history
abbrev pub shorter : List Happened → List Happened → List Happened
shorter xs ys = if nat_lt (length xs) (length ys) then xs else ys

-- a place put among ascending ones
abbrev pub put_in : ℕ → List ℕ → List ℕ
put_in p [] = p ∷ []
put_in p (q ∷ qs) = if nat_le p q then p ∷ q ∷ qs else q ∷ put_in p qs

-- two lists of ascending places as one
abbrev pub merged : List ℕ → List ℕ → List ℕ
merged [] ys = ys
merged (x ∷ xs) ys = put_in x (merged xs ys)

-- a pass that was split
abbrev pub split_from : View → View
split_from v = record v { splits = v.splits + 1 }

-- the pass that a split makes: it has seen what its parent has, and may ask as often
abbrev pub split_off : View → View
split_off v = record v { shorter = []; mine = []; faults = 0; drawn = 0; ticket = None; taken = None; splits = 0; stands_for = 1; first = false }

-- a note of a pass: it has seen what the pass has
abbrev pub noted : View → View
noted v = record v { shorter = []; mine = []; faults = 0; room = 0; drawn = 0; ticket = None; taken = None; splits = 0; stands_for = 0; first = false }

-- a pass that took in another
abbrev pub both : View → View → View
both v w = record v { seen = longer v.seen w.seen; shorter = shorter v.seen w.seen; mine = merged v.mine w.mine; faults = v.faults + w.faults; spent = v.spent || w.spent; drawn = v.drawn + w.drawn; stands_for = v.stands_for + w.stands_for }

-- a pass that learnt a note
abbrev pub heard : View → View → View
heard v w = record v { seen = longer v.seen w.seen; shorter = shorter v.seen w.seen; spent = v.spent || w.spent }

-- ---- what the steps tell

module _ {K : Type 0} where
  -- a ticket was drawn: the number found
  abbrev pub Draws : Me (Option (BookValue K)) View → ℕ → Me (Option (BookValue K)) View → Type 0
  Draws m found n = n ≡ (drawing m.0 found, m.1)

  -- the book was taken, whose history goes on from what was seen
  pub record Takes (faults : K → ℕ) (v : View) (n : Me (Option (BookValue K)) View) : Type 0 where
    pub book : BookValue K
    pub held : n.1 ≡ (0, Some book) ∷ []
    pub view : n.0 ≡ taking v book.log (faults book.keeper)
    pub begins : IsPrefix v.seen book.log

  -- the turn was looked at: where it is the ticket's, the book was taken, else nothing changed
  abbrev pub Looks : (K → ℕ) → Me (Option (BookValue K)) View → ℕ → Me (Option (BookValue K)) View → Type 0
  Looks faults m turn n = (m.0.ticket ≡ Some turn → Takes faults m.0 n) × (m.0.ticket ≢ Some turn → n ≡ m)

  -- the turn went on, and the book was given back
  abbrev pub Gives : (K → ℕ) → Me (Option (BookValue K)) View → Me (Option (BookValue K)) View → Type 0
  Gives faults m n = (book : BookValue K) (log : List Happened) (count : ℕ) → m.1 ≡ (0, Some book) ∷ [] → m.0.taken ≡ Some (log, count) → n ≡ (giving m.0 log count book.log (faults book.keeper), [])

  -- the turn was looked at without a ticket, as a pass does that took in another: what it knows is true
  pub record Learns (m n : Me (Option (BookValue K)) View) : Type 0 where
    pub same : n ≡ m
    pub shorter : IsPrefix m.0.shorter m.0.seen
    pub mine : ArePlacesOf m.0.seen m.0.mine
    pub few : m.0.stands_for ≤ 256
