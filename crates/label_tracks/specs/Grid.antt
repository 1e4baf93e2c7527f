-- A square of counts over labels (a contingency table).
use Rattle.std.specs.Prelude.{ℕ, ◌+◌, ◌*◌, List, slice_index}

-- A square of counts over labels, row by row: a contingency table.
pub record Grid : Type 0 where
  pub width : ℕ
  pub cells : List ℕ

-- the count of the labels c and k, in this order
unfoldable pub cell_of : Grid → ℕ → ℕ → ℕ
cell_of grid c k = slice_index grid.cells (c * grid.width + k)
