use Rattle.std.proofs.Common.{◌≡◌, ◌+◌, take, length}
use Rattle.kappa_alpha.specs.Columns.{raters_in}
use Rattle.kappa_alpha.specs.Standing.{column_of}
use Rattle.kappa_alpha.proofs.column.read_column.Given as goal

abbrev pub invariant-loop-s : goal.invariant-loop-s
invariant-loop-s g l = record {
  same : length l.column ≡ length l.rows;
  front : take l.s l.column ≡ take l.s (column_of l.rows l.i);
  steps : l.steps ≡ l.fn.steps + raters_in (take l.s l.column);
}
