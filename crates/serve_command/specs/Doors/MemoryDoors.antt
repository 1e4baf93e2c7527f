-- What a door in memory hands out, and which of its calls fail; and the same of doors.
use Rattle.std.specs.Prelude.{◌≡◌, ◌+◌, ◌<◌, ◌||◌, Bool, true, false, List, [], ◌∷◌}
use Rattle.std.specs.Vec.Iter.{into_iter_items}
use Rattle.mark_base.specs.FailList.{FailState, is_listed}
use Rattle.mark_base.specs.declared.memory_link.MemoryLink.{MemoryLink}
use Rattle.serve_command.specs.declared.doors.memory_door.MemoryDoor.{MemoryDoor}
use Rattle.serve_command.specs.declared.doors.memory_door.SureDoor.{SureDoor}
use Rattle.serve_command.specs.declared.doors.memory_doors.MemoryDoors.{MemoryDoors}

-- the numbers of the calls that fail, how many calls were made, and how many failed
abbrev pub calls_of : MemoryDoor → FailState
calls_of door = door.fails

-- the links that a door has yet to hand out
abbrev pub links_of : MemoryDoor → List MemoryLink
links_of door = into_iter_items door.links

-- the links that a sure door has yet to hand out
abbrev pub sure_links_of : SureDoor → List MemoryLink
sure_links_of door = into_iter_items door.links

-- the doors that are yet to be handed out
abbrev pub doors_of : {D : Type 0} → MemoryDoors D → List D
doors_of doors = into_iter_items doors.doors

-- the numbers of the calls that fail, how many calls were made, and how many failed
abbrev pub door_calls_of : {D : Type 0} → MemoryDoors D → FailState
door_calls_of doors = doors.fails

-- whether a list has nothing
abbrev pub is_empty : {A : Type 0} → List A → Bool
is_empty [] = true
is_empty (x ∷ xs) = false

-- a call was counted once, below the last number of its type, and it failed exactly where the list has its number or no door was left
pub record HandsOut {D : Type 0} (old : FailState) (doors : List D) (failed : Bool) (new : FailState) : Type 0 where
  pub listed : old.calls < 18446744073709551615 → failed ≡ (is_listed old (old.calls + 1) || is_empty doors)
  pub counted : old.calls < 18446744073709551615 → new.calls ≡ old.calls + 1
  pub fails : new.fails ≡ old.fails
