-- Sums over pairs of raters (private calls only).
use Rattle.std.specs.Prelude.{◌≡◌, ℕ, ◌+◌, ◌*◌, ◌<◌, ◌==◌, ◌&&◌, List, [], get_or, length, Option, None, if◌then◌else◌}
use Rattle.label_tracks.specs.Grid.{Grid, cell_of}
use Rattle.kappa_alpha.specs.Columns.{worth}
use Rattle.kappa_alpha.specs.Standing.{sum_below}

-- what stands past the end of a list of tables
abbrev pub no_grid : Grid
no_grid = record { width = 0; cells = [] }

-- the cell (c, k) of the contingency table of raters a and b, of so many raters
unfoldable pub pair_cell : ℕ → List Grid → ℕ → ℕ → ℕ → ℕ → ℕ
pair_cell raters grids a b c k = cell_of (get_or grids (a * raters + b) no_grid) c k

-- there is a table of the width for each two raters
pub record PairsFit (raters width : ℕ) (grids : List Grid) : Type 0 where
  pub whole : length grids ≡ raters * raters
  pub widths : (i : ℕ) → i < length grids → (get_or grids i no_grid).width ≡ width

-- each table is of zeros
abbrev pub IsEmpty : List Grid → Type 0
IsEmpty grids = (i c k : ℕ) → i < length grids → cell_of (get_or grids i no_grid) c k ≡ 0

-- what a label x of rater a and a label z of rater b add to the cell (c, k) of raters p and q
unfoldable pub placed : ℕ → ℕ → ℕ → Option ℕ → Option ℕ → ℕ → ℕ → ℕ → ℕ → ℕ
placed w a b x z p q c k = if (p == a) && (q == b) then worth w c k x z else 0

-- the same of raters r and s, in the order of their numbers
unfoldable pub share : ℕ → ℕ → Option ℕ → ℕ → Option ℕ → ℕ → ℕ → ℕ → ℕ → ℕ
share w r x s z p q c k = placed w r s x z p q c k + placed w s r z x p q c k

-- what the label x of rater r adds beside the first n others
unfoldable pub shares : ℕ → ℕ → Option ℕ → List (Option ℕ) → ℕ → ℕ → ℕ → ℕ → ℕ → ℕ
shares w r x others n p q c k = sum_below (λ s. share w r x s (get_or others s None) p q c k) n
