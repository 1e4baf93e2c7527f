-- Types at a level of their tree: a type below the level counts as its ancestor there (brat configuration manual: the hierarchy of types).
use Rattle.std.specs.Prelude.{ℕ, ◌+◌, ◌-◌, ◌==◌, ◌<◌, ◌≤◌, List, map, length, count_by, nat_le, slice_get, slice_index, unwrap_or, if◌then◌else◌, zero, suc}
use Rattle.std.specs.Option.{option_map_or}
use Rattle.std.specs.List.{enumerate_from, filter, list_any, range_with_len}
use Rattle.type_hierarchy.specs.declared.type_row.TypeRow.{TypeRow}
use Rattle.type_hierarchy.specs.TypeTrees.{depth_of, parent_of}

-- the type that stands so many steps above another, or the topmost where there are fewer
abbrev pub ancestor : ℕ → List TypeRow → ℕ → ℕ
ancestor zero rows place = place
ancestor (suc steps) rows place = option_map_or (λ parent. ancestor steps rows parent.n) (parent_of rows place) place

-- the type that a type counts as at a level: itself where it is no deeper, else its ancestor at that depth
unfoldable pub rolled : List TypeRow → ℕ → ℕ → ℕ
rolled rows level place = ancestor (unwrap_or (depth_of rows (record { n = place })) 0 - level) rows place

-- the types that the usable types count as
abbrev pub rolled_types : List TypeRow → ℕ → List ℕ
rolled_types rows level = map (λ placed. rolled rows level placed.0) (filter (λ placed. placed.1.usable) (enumerate_from 0 rows))

-- the different ones among them, in the order of the types
unfoldable pub heads : List TypeRow → ℕ → List ℕ
heads rows level = filter (λ place. list_any (λ other. other == place) (rolled_types rows level)) (range_with_len 0 (length rows))

-- the number of a head, from 1: how many heads do not stand behind it
abbrev pub group_number : List ℕ → ℕ → ℕ
group_number heads head = count_by (λ other. nat_le other head) heads

-- the group of a type at a level: the number of the type that it counts as; 0 where annotations may not have the type
unfoldable pub group_at : List TypeRow → ℕ → ℕ → ℕ
group_at rows level place =
    option_map_or (λ row. if row.usable then group_number (heads rows level) (rolled rows level place) else 0) (slice_get rows place) 0

-- The groups of types at a level, each type's at its place, and how many labels there are, 0 among them.
pub record Grouping : Type 0 where
  pub level : ℕ
  pub groups : List ℕ
  pub width : ℕ

-- the groups of these types at a level, of which 255 is none: no type is deeper
unfoldable pub grouping_of : List TypeRow → ℕ → Grouping
grouping_of rows level = record {
  level = level;
  groups = map (group_at rows level) (range_with_len 0 (length rows));
  width = length (heads rows level) + 1;
}

-- there are 1 to 64 labels, and the group of each type is one
pub record AreGroups (groups : List ℕ) (width : ℕ) : Type 0 where
  pub some : 1 ≤ width
  pub few : width ≤ 64
  pub below : (place : ℕ) → slice_index groups place < width
