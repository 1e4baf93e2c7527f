-- The rule of a hall: what holds between any two steps. Word 0 is the turn, word 1 the next ticket, and slot 0 has the book.
use Rattle.std.specs.Prelude.{◌≡◌, ℕ, ◌+◌, ◌*◌, ◌^◌, ◌<◌, ◌≤◌, false, List, [], ◌∷◌, length, Option, Some, None}
use mathlib.Core.Option as slot
use mathlib.Core.List.{IsPrefix}
use lib.ListN.{get_elem?}
use Rattle.atomic_table.specs.Table.{State}
use Rattle.project_machine.specs.Requests.{Happened}
use Rattle.project_machine.specs.History.{last}
use Rattle.project_book.specs.Keeping.{BookValue}
use Rattle.turn_hall.specs.Views.{View}
use Rattle.turn_hall.specs.Counts.{total, within, has_ticket, has_taken, has_place, drawn_of, stands_of, splits_of, first_of, ArePlacesOf}

-- slot 0 is at home with a book of this history, and no view has taken it; or it is out, and one view has
abbrev pub IsSlot : {K : Type 0} → List (slot.Option (Option (BookValue K))) → List Happened → (takers : ℕ) → Type 0
IsSlot (slot.some (Some book) ∷ []) history takers = (book.log ≡ history) × (takers ≡ 0)
IsSlot (slot.none ∷ []) history takers = takers ≡ 1
IsSlot homes history takers = ⊥

-- what a view knows is true at a turn and a history: what was seen is a beginning of it, what is its own lies within that, the book that it has taken is the one of the turn that is its own, and what it may still ask is little enough; a note's view stands for no pass, and has no place, fault or ticket
pub record Fits (turn : ℕ) (history : List Happened) (v : View) : Type 0 where
  pub seen : IsPrefix v.seen history
  pub shorter : IsPrefix v.shorter v.seen
  pub mine : ArePlacesOf v.seen v.mine
  pub taken : (log : List Happened) (count : ℕ) → v.taken ≡ Some (log, count) → (v.ticket ≡ Some turn) × (log ≡ history)
  pub room : v.room ≤ 2 ^ 32
  pub drawn : v.drawn + v.room ≤ 2 ^ 32 * v.stands_for
  pub note : v.stands_for ≡ 0 → (v.mine ≡ []) × (v.faults ≡ 0) × (v.ticket ≡ None) × (v.first ≡ false)
  pub splits : v.first ≡ false → v.splits ≡ 0

-- the rule. Each ticket from the turn on is one view's, and no other is any view's. Each place above the opening's is one view's own, once. The tickets drawn are those of all views. All views together stand for one pass more than there were splits, of which there are at most 255, all of the first pass
pub record Holds {K : Type 0} (opening : List Happened) (s : State (Option (BookValue K)) View) : Type 0 where
  pub turn : ℕ
  pub next : ℕ
  pub history : List Happened
  pub words : s.words ≡ turn ∷ next ∷ []
  pub turns : turn ≤ next
  pub tickets : (t : ℕ) → total (has_ticket t) s.views ≡ within turn next t
  pub book : IsSlot s.homes history (total has_taken s.views)
  pub founded : 0 < length opening
  pub begun : IsPrefix opening history
  pub places : (p : ℕ) → total (has_place p) s.views ≡ within (last opening + 1) (last history + 1) p
  pub drawn : next ≡ total drawn_of s.views
  pub stand : total stands_of s.views ≡ total splits_of s.views + 1
  pub cut : total splits_of s.views ≤ 255
  pub firsts : total first_of s.views ≡ 1
  pub fits : (j : ℕ) (v : View) → get_elem? s.views j ≡ slot.some v → Fits turn history v
