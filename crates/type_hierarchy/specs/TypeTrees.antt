-- A tree of types as the list of its rows, each of which names its type and the place of its parent (brat configuration manual, "Configuration of annotation types": the hierarchy of types).
use Rattle.std.specs.Prelude.{ℕ, ◌+◌, ◌==◌, ◌||◌, ◌&&◌, Bool, false, List, length, nat_lt, bytes_eq, Option, Some, None, if◌then◌else◌, option_map, option_and_then, slice_get, zero, suc}
use Rattle.std.specs.Option.{option_map_or}
use Rattle.std.specs.List.{position_from}
use Rattle.mark_base.specs.declared.table_places.TypeId.{TypeId}
use Rattle.type_hierarchy.specs.declared.type_row.TypeRow.{TypeRow}

-- a row has this name
abbrev pub is_named : List ℕ → TypeRow → Bool
is_named name row = bytes_eq row.name name

-- the type of a name: the place of the first row that has it
abbrev pub type_named : List TypeRow → List ℕ → Option TypeId
type_named rows name = option_map (λ place. record { n = place }) (position_from (is_named name) 0 rows)

-- the parent of the type of a place
abbrev pub parent_of : List TypeRow → ℕ → Option TypeId
parent_of rows place = option_and_then (λ row. row.parent) (slice_get rows place)

-- a type is another, or one of at most so many ancestors is
abbrev pub climbs : ℕ → List TypeRow → ℕ → ℕ → Bool
climbs zero rows low high = low == high
climbs (suc steps) rows low high = low == high || option_map_or (λ parent. climbs steps rows parent.n high) (parent_of rows low) false

-- a type of the tree is equal to another or a descendant of it: it has at most as many ancestors as the tree has rows
unfoldable pub is_under : List TypeRow → TypeId → TypeId → Bool
is_under rows low high = nat_lt low.n (length rows) && climbs (length rows) rows low.n high.n

-- how many ancestors the type of a place has, counted by at most so many steps up
abbrev pub depth_by : ℕ → List TypeRow → ℕ → ℕ
depth_by zero rows place = 0
depth_by (suc steps) rows place = option_map_or (λ (parent : TypeId). depth_by steps rows parent.n + 1) (parent_of rows place) 0

-- how many ancestors a type of the tree has
unfoldable pub depth_of : List TypeRow → TypeId → Option ℕ
depth_of rows id = if nat_lt id.n (length rows) then Some (depth_by (length rows) rows id.n) else None
