-- What a request makes of the book that a seat has taken, and what is left of a hall.
use Rattle.std.specs.Prelude.{◌≡◌, ◌⊎◌, ℕ, ◌+◌, ◌≤◌, true, List, [], ◌∷◌, ◌++◌, Option, Some}
use Rattle.mark_base.specs.Streams.{Rose}
use Rattle.project_machine.specs.declared.book_refusal.BookRefusal.TheVariants as no
use Rattle.project_machine.specs.Requests.{Asked, Answered, Refused, Happened}
use Rattle.project_machine.specs.History.{last}
use Rattle.project_machine.specs.Legal.{HasRoom, IsLegal}
use Rattle.project_machine.specs.Asking.{IsStep, gained}
use Rattle.project_book.specs.Keeping.{BookValue, TellsKeeper}
use Rattle.project_book.specs.Visits.{steps_behind}
use Rattle.turn_hall.specs.Views.{View, IsIdle}
use Rattle.turn_hall.specs.Counts.{ArePlacesOf}

module _ {K : Type 0} where
  -- a seat has taken the book, and nothing else
  pub record HasBook (held : List (ℕ × Option (BookValue K))) : Type 0 where
    pub book : BookValue K
    pub is : held ≡ (0, Some book) ∷ []

  -- one request to a book (private calls only)
  pub record IsAskedBook (faults : K → ℕ) (faultless : K → Type 0) (old new : BookValue K) (caller : List ℕ) (asked : Asked) (answer : Answered) (place steps_old steps_new : ℕ) : Type 0 where
    pub step : IsStep old.log caller asked answer new.log
    pub keeper : TellsKeeper faults faultless old.keeper new.keeper (answer ≡ Refused no.Keeper [])
    pub was : IsLegal old.log
    pub legal : IsLegal new.log
    pub room : HasRoom new.log
    pub placed : place ≡ last new.log
    pub few : steps_new ≤ steps_old + steps_behind old.log new.log

  -- the same of a slot with a book (private calls only)
  pub record AsksIn (faults : K → ℕ) (faultless : K → Type 0) (before after : Option (BookValue K)) (caller : List ℕ) (asked : Asked) (answer : Answered) (place steps_old steps_new : ℕ) : Type 0 where
    pub old : BookValue K
    pub new : BookValue K
    pub was : before ≡ Some old
    pub now : after ≡ Some new
    pub asks : IsAskedBook faults faultless old new caller asked answer place steps_old steps_new

  -- the same of what a seat has taken (private calls only)
  pub record AsksHeld (faults : K → ℕ) (faultless : K → Type 0) (before after : List (ℕ × Option (BookValue K))) (caller : List ℕ) (asked : Asked) (answer : Answered) (place steps_old steps_new : ℕ) : Type 0 where
    pub old : BookValue K
    pub new : BookValue K
    pub was : before ≡ (0, Some old) ∷ []
    pub now : after ≡ (0, Some new) ∷ []
    pub asks : IsAskedBook faults faultless old new caller asked answer place steps_old steps_new

-- one turn of a view: a ticket was drawn, the history that was found goes on from what was seen, one request was asked of it, and the view has seen what the book then was (private calls only)
pub record IsTurn (v w : View) (caller : List ℕ) (asked : Asked) (answer : Answered) (place steps_old steps_new : ℕ) : Type 0 where
  pub others : List Happened
  pub step : IsStep (v.seen ++ others) caller asked answer w.seen
  pub was : IsLegal (v.seen ++ others)
  pub mine : w.mine ≡ v.mine ++ gained (v.seen ++ others) w.seen
  pub places : ArePlacesOf v.seen v.mine → ArePlacesOf w.seen w.mine
  pub legal : IsLegal w.seen
  pub short : HasRoom w.seen
  pub placed : place ≡ last w.seen
  pub few : steps_new ≤ steps_old + steps_behind (v.seen ++ others) w.seen
  pub room : w.room + 1 ≡ v.room
  pub drawn : w.drawn ≡ v.drawn + 1
  pub cause : answer ≡ Refused no.Keeper [] → Rose v.faults w.faults ⊎ (w.spent ≡ true)
  pub later : v.faults ≤ w.faults
  pub stays_spent : v.spent ≡ true → w.spent ≡ true
  pub idle : IsIdle w
  pub first : w.first ≡ v.first
  pub splits : w.splits ≡ v.splits
  pub stands : w.stands_for ≡ v.stands_for
