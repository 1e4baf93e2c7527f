-- What is at fault with rows that make no tree of types.
use Rattle.std.specs.Prelude.{◌≡◌, ℕ, ◌||◌, Bool, false, List, length, nat_lt, nat_le, Option, Some, None, option_map, slice_get, take, position, count_by, if◌then◌else◌, ⊤}
use Rattle.std.specs.Option.{option_map_or, option_or}
use Rattle.std.specs.List.{list_any, range_with_len}
use Rattle.type_hierarchy.specs.declared.type_row.TypeRow.{TypeRow}
use Rattle.type_hierarchy.specs.declared.types_fault.TypesFault.{TypesFault}
use Rattle.type_hierarchy.specs.declared.types_fault.TypesFault.TheVariants.{NameTwice, BadParent, TooMany, Memory}
use Rattle.type_hierarchy.specs.TypeTrees.{is_named, parent_of}

-- the first of so many places that passes a test
abbrev pub first_place : (ℕ → Bool) → ℕ → Option ℕ
first_place test count = position test (range_with_len 0 count)

-- the name of the row of a place stands on an earlier row
abbrev pub is_twice : List TypeRow → ℕ → Bool
is_twice rows place = option_map_or (λ row. list_any (is_named row.name) (take place rows)) (slice_get rows place) false

-- the parent of the row of a place does not stand before it
abbrev pub is_misplaced : List TypeRow → ℕ → Bool
is_misplaced rows place = option_map_or (λ parent. nat_le place parent.n) (parent_of rows place) false

-- the first row whose name stands before it
unfoldable pub name_twice : List TypeRow → Option ℕ
name_twice rows = first_place (is_twice rows) (length rows)

-- the first row whose parent does not stand before it
unfoldable pub bad_parent : List TypeRow → Option ℕ
bad_parent rows = first_place (is_misplaced rows) (length rows)

-- more than 256 rows, or more than 63 that may be used in annotations
abbrev pub are_too_many : List TypeRow → Bool
are_too_many rows = nat_lt 256 (length rows) || nat_lt 63 (count_by (λ row. row.usable) rows)

-- the first fault of rows, in the order: a name twice, a parent that does not stand before, too many
unfoldable pub fault_of : List TypeRow → Option TypesFault
fault_of rows =
    option_or (option_map NameTwice (name_twice rows))
    (option_or (option_map BadParent (bad_parent rows)) (if are_too_many rows then Some TooMany else None))

-- what a refusal says: the first fault of the rows, or want of memory
abbrev pub IsRefusal : List TypeRow → TypesFault → Type 0
IsRefusal rows Memory = ⊤
IsRefusal rows told = fault_of rows ≡ Some told

-- what a refusal says while names are gathered: the first name that stands twice, or want of memory
abbrev pub IsNameRefusal : List TypeRow → TypesFault → Type 0
IsNameRefusal rows (NameTwice place) = name_twice rows ≡ Some place
IsNameRefusal rows Memory = ⊤
IsNameRefusal rows _ = ⊥
