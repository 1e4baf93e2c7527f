-- What a tree of types keeps beside its rows (private calls only).
use Rattle.std.specs.Prelude.{◌≡◌, ℕ, ◌<◌, ◌≤◌, List, length, Some, None}
use Rattle.std.specs.List.{position_from}
use Rattle.std.specs.BTreeMap.{BTreeMap, get}
use Rattle.std.specs.Ordering.{nat_cmp}
use Rattle.std.specs.Cmp.Lexicographic.{slice_cmp}
use Rattle.mark_base.specs.declared.table_places.TypeId.{TypeId}
use Rattle.type_hierarchy.specs.declared.type_row.TypeRow.{TypeRow}
use Rattle.type_hierarchy.specs.TypeTrees.{is_named, parent_of}
use Rattle.type_hierarchy.specs.TypeFaults.{fault_of}

-- each parent stands before its row
abbrev pub ParentsBefore : List TypeRow → Type 0
ParentsBefore rows = (place : ℕ) (parent : TypeId) → parent_of rows place ≡ Some parent → parent.n < place

-- a map from each name to the place of its row
abbrev pub FindsNames : List TypeRow → BTreeMap (List ℕ) ℕ → Type 0
FindsNames rows places = (name : List ℕ) → get (slice_cmp nat_cmp) places name ≡ position_from (is_named name) 0 rows

-- the rows have no fault, and the map finds them
pub record IsIndexed (rows : List TypeRow) (places : BTreeMap (List ℕ) ℕ) : Type 0 where
  pub sound : fault_of rows ≡ None
  pub parents : ParentsBefore rows
  pub few : length rows ≤ 256
  pub finds : FindsNames rows places
