-- A snapshot: the finished layers of one text, by their holders.
use Rattle.std.specs.Prelude.{ℕ, ◌≤◌, List, length, map}
use Rattle.std.specs.Ordering.{nat_cmp}
use Rattle.std.specs.Cmp.Lexicographic.{slice_cmp}
use Rattle.std.specs.List.Sorted.{IsStrictlySortedBy}
use Rattle.std.specs.Arc.{arc_value}
use Rattle.std.specs.declared.sync.Arc.{Arc}
use Rattle.layer_model.specs.Annotations.{Annotations}

-- the name of a holder and the layer
abbrev pub row_of : {Z : Type 0} → List ℕ × Arc Annotations Z → List ℕ × Annotations
row_of row = (row.0, arc_value row.1)

-- there are 2 to 16 holders, and their names strictly ascend
pub record AreHolders (rows : List (List ℕ × Annotations)) : Type 0 where
  pub two : 2 ≤ length rows
  pub few : length rows ≤ 16
  pub ascending : IsStrictlySortedBy (slice_cmp nat_cmp) (map (λ row. row.0) rows)
