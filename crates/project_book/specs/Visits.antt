-- What the one visitor of a book of its own sees, and how many steps a request of a visitor takes.
use Rattle.std.specs.Prelude.{ℕ, ◌+◌, ◌-◌, List, [], ◌∷◌, length, take, nat_le, nat_lt, if◌then◌else◌}
use Rattle.std.specs.List.{range_with_len}
use Rattle.project_machine.specs.Requests.{Happened}
use Rattle.project_machine.specs.History.{after, last}
use Rattle.project_machine.specs.Tables.{standing_of}
use Rattle.project_machine.specs.Asking.{Visiting}
use Rattle.project_state.specs.Tables.Tabling.{most_steps}
use Rattle.project_book.specs.Keeping.{tabling_behind}

-- the places of a history above one of them
abbrev pub places_above : ℕ → List Happened → List ℕ
places_above place log = range_with_len (place + 1) (last log - place)

-- what is seen of a history by one who made all its changes above a place, of a keeper that counted so many faults; the place is the number that no call changes. Where it is so at the beginning and at the end, nobody else changed the project between them: each place above is the visitor's own, and it makes at most one of its own with each request
abbrev pub visiting_alone : List Happened → ℕ → ℕ → ℕ → Visiting
visiting_alone log began faults room = record {
  seen = log;
  mine = places_above began log;
  faults = faults;
  spent = nat_le 18446744073709551615 faults;
  badge = began ∷ [];
  room = room;
}

-- the most steps that the tables take from a history to one that has one change more, or none
abbrev pub steps_behind : List Happened → List Happened → ℕ
steps_behind log now = most_steps (tabling_behind log now) (standing_of (after log) 0)

-- a history without its last change
abbrev pub all_but_last : List Happened → List Happened
all_but_last log = take (length log - 1) log

-- the most steps that one request of a visitor takes: those of the visitor's own change, which is then the last that it has seen; none where it made none
abbrev pub own_steps : Visiting → Visiting → ℕ
own_steps old new = if nat_lt (length old.mine) (length new.mine) then steps_behind (all_but_last new.seen) new.seen else 0
