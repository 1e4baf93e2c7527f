use Rattle.std.proofs.Common.{◌≡◌, ℕ, ◌+◌, ◌*◌, ◌<◌, drop}
use Rattle.label_tracks.specs.Grid.{cell_of}
use Rattle.kappa_alpha.specs.Columns.{ordered, raters_in}
use Rattle.kappa_alpha.proofs.coincidences.shift_ordered.Given as goal

abbrev pub invariant-loop-i : goal.invariant-loop-i
invariant-loop-i g l = record {
  width : l.grid.width ≡ l.fn.grid.width;
  each : (c k : ℕ) → c < l.fn.grid.width → k < l.fn.grid.width → cell_of l.grid c k + ordered l.before c k l.column + ordered l.after c k (drop l.i l.column) ≡ cell_of l.fn.grid c k + ordered l.after c k l.column + ordered l.before c k (drop l.i l.column);
  steps : l.steps + raters_in (drop l.i l.column) * raters_in (drop l.i l.column) + raters_in l.column ≡ l.fn.steps + raters_in l.column * raters_in l.column + raters_in (drop l.i l.column);
}
