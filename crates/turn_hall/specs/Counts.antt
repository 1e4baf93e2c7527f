-- How the views of a hall are counted, and places that ascend.
use Rattle.std.specs.Prelude.{ℕ, ◌+◌, ◌-◌, ◌<◌, ◌≤◌, min, Bool, true, false, List, [], ◌∷◌, Option, Some, None, ⊤}
use Rattle.project_machine.specs.Requests.{Happened}
use Rattle.project_machine.specs.History.{begin, last}
use Rattle.turn_hall.specs.Views.{View}

-- f of each view, added up
abbrev pub total : (View → ℕ) → List View → ℕ
total f [] = 0
total f (v ∷ views) = f v + total f views

-- 1 where two numbers are the same, else 0
abbrev pub same : ℕ → ℕ → ℕ
same p q = 1 - ((p - q) + (q - p))

-- 1 where a number is at least a low one and below a high one, else 0
abbrev pub within : ℕ → ℕ → ℕ → ℕ
within low high p = min 1 (high - p) - min 1 (low - p)

-- how often a number stands in a list
abbrev pub times : ℕ → List ℕ → ℕ
times p [] = 0
times p (q ∷ qs) = same p q + times p qs

-- 1 for true, 0 for false
abbrev pub one_if : Bool → ℕ
one_if true = 1
one_if false = 0

-- 1 where there is something, else 0
abbrev pub one_if_some : {A : Type 0} → Option A → ℕ
one_if_some None = 0
one_if_some (Some x) = 1

-- 1 where a ticket is that number, else 0
abbrev pub is_ticket : ℕ → Option ℕ → ℕ
is_ticket t None = 0
is_ticket t (Some u) = same t u

-- 1 where a view has the ticket of a number
abbrev pub has_ticket : ℕ → View → ℕ
has_ticket t v = is_ticket t v.ticket

-- 1 where a view has taken the book
abbrev pub has_taken : View → ℕ
has_taken v = one_if_some v.taken

-- how often a place is one of a view's own
abbrev pub has_place : ℕ → View → ℕ
has_place p v = times p v.mine

-- how many tickets a view drew
abbrev pub drawn_of : View → ℕ
drawn_of v = v.drawn

-- for how many passes a view stands
abbrev pub stands_of : View → ℕ
stands_of v = v.stands_for

-- how often a view was split
abbrev pub splits_of : View → ℕ
splits_of v = v.splits

-- 1 for the view of the first pass
abbrev pub first_of : View → ℕ
first_of v = one_if v.first

-- numbers that ascend, above a low one and up to a high one
abbrev pub AscendWithin : ℕ → ℕ → List ℕ → Type 0
AscendWithin low high [] = ⊤
AscendWithin low high (p ∷ ps) = (low < p) × (p ≤ high) × AscendWithin p high ps

-- places of a history, ascending
abbrev pub ArePlacesOf : List Happened → List ℕ → Type 0
ArePlacesOf log places = AscendWithin (begin log) (last log) places
