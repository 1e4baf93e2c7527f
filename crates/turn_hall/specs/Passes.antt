-- A hall, its passes and its notes, as contracts see them.
use Rattle.std.specs.Prelude.{◌≡◌, ℕ, ◌+◌, ◌<◌, ◌≤◌, List, [], ◌∷◌, Bool, false}
use mathlib.Core.List.{IsPrefix}
use Rattle.atomic_table.specs.Seated.{TableId}
use Rattle.project_machine.specs.Requests.{Happened}
use Rattle.project_machine.specs.History.{last}
use Rattle.project_machine.specs.Legal.{HasRoom, IsLegal}
use Rattle.project_machine.specs.Asking.{Visiting}
use Rattle.project_book.specs.Keeping.{BookValue}
use Rattle.project_book.specs.Visits.{places_above}
use Rattle.turn_hall.specs.Views.{View, blank, IsIdle}
use Rattle.turn_hall.specs.Counts.{one_if, times, ArePlacesOf}
use Rattle.turn_hall.specs.Steps.{both, heard}

-- a hall: which one it is, and the history of the book that it was opened with
pub record HallValue : Type 0 where
  pub id : TableId
  pub opening : List Happened

-- a pass or a note: the hall that it is of, and what it knows
pub record PassValue : Type 0 where
  pub hall : TableId
  pub knows : View

-- the one view of a pass
abbrev pub view_of : List View → View
view_of [] = blank
view_of (v ∷ views) = v

-- what a pass and a note have seen: a legal history that has room
pub record IsSeen (log : List Happened) (place : ℕ) : Type 0 where
  pub legal : IsLegal log
  pub short : HasRoom log
  pub placed : place ≡ last log

-- what each pass keeps between two calls
pub record IsPass (views : List View) (place room splits stands_for : ℕ) (first : Bool) : Type 0 where
  pub one : views ≡ view_of views ∷ []
  pub idle : IsIdle (view_of views)
  pub seen : IsSeen (view_of views).seen place
  pub mine : ArePlacesOf (view_of views).seen (view_of views).mine
  pub room_is : room ≡ (view_of views).room
  pub splits_is : splits ≡ (view_of views).splits
  pub stands_is : stands_for ≡ (view_of views).stands_for
  pub first_is : first ≡ (view_of views).first
  pub some_part : 0 < stands_for

-- what each note keeps
pub record IsNote (views : List View) (place : ℕ) : Type 0 where
  pub one : views ≡ view_of views ∷ []
  pub idle : IsIdle (view_of views)
  pub seen : IsSeen (view_of views).seen place
  pub no_part : (view_of views).stands_for ≡ 0
  pub second : (view_of views).first ≡ false

-- ---- what a pass tells as a visitor

-- the numbers by which a hall is known
abbrev pub hall_number : TableId → List ℕ
hall_number id = id.words ∷ id.slots ∷ id.views_name ∷ id.atom ∷ id.block ∷ id.offset ∷ id.slot_names

-- the three values that a pass tells, and its hall
abbrev pub badge_of : PassValue → List ℕ
badge_of pass = one_if pass.knows.first ∷ pass.knows.splits ∷ pass.knows.stands_for ∷ hall_number pass.hall

-- what a pass tells as a visitor
abbrev pub visiting_of : PassValue → Visiting
visiting_of pass = record { seen = pass.knows.seen; mine = pass.knows.mine; faults = pass.knows.faults; spent = pass.knows.spent; badge = badge_of pass; room = pass.knows.room }

-- a pass of the same hall, which tells the same three values
pub record IsSamePass (old new : PassValue) : Type 0 where
  pub hall : new.hall ≡ old.hall
  pub first : new.knows.first ≡ old.knows.first
  pub splits : new.knows.splits ≡ old.knows.splits
  pub stands : new.knows.stands_for ≡ old.knows.stands_for

-- a pass took one turn: one ticket more was drawn
pub record TookTurn (old new : PassValue) : Type 0 where
  pub pass : IsSamePass old new
  pub drawn : new.knows.drawn ≡ old.knows.drawn + 1

-- ---- passes that meet, and the end

-- a pass that took in another knows what both knew: each saw a beginning of what it has seen, no place was both passes' own, and each place of the two is now its own
pub record Joined (u v w : View) : Type 0 where
  pub is : w ≡ both u v
  pub first_seen : IsPrefix u.seen w.seen
  pub second_seen : IsPrefix v.seen w.seen
  pub mine : (p : ℕ) → times p w.mine ≡ times p u.mine + times p v.mine
  pub once : (p : ℕ) → times p u.mine + times p v.mine ≤ 1
  pub places : ArePlacesOf w.seen w.mine

-- a pass that learnt a note is as before, and has seen what the note had
pub record Learnt (u v w : View) : Type 0 where
  pub is : w ≡ heard u v
  pub first_seen : IsPrefix u.seen w.seen
  pub second_seen : IsPrefix v.seen w.seen

-- a book whose history goes on from that of the opening and from what the last pass had seen, and whose places above the opening's are just the pass's own
pub record IsClosed {K : Type 0} (opening : List Happened) (v : View) (book : BookValue K) : Type 0 where
  pub begun : IsPrefix opening book.log
  pub seen : IsPrefix v.seen book.log
  pub mine : v.mine ≡ places_above (last opening) book.log
