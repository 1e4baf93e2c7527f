use Rattle.std.proofs.Common.{◌≡◌, ℕ, ◌+◌, ◌*◌, ◌<◌, take, Some}
use Rattle.label_tracks.specs.Grid.{cell_of}
use Rattle.kappa_alpha.specs.Columns.{toward, raters_in}
use Rattle.kappa_alpha.proofs.coincidences.shift_toward.Given as goal

abbrev pub invariant-loop-other : goal.invariant-loop-other
invariant-loop-other g l = record {
  width : l.grid.width ≡ l.fn.grid.width;
  each : (c k : ℕ) → c < l.fn.grid.width → k < l.fn.grid.width → cell_of l.grid c k + toward l.before c k (Some l.x) (take l.other-index l.others) ≡ cell_of l.fn.grid c k + toward l.after c k (Some l.x) (take l.other-index l.others);
  steps : l.steps ≡ l.fn.steps + 2 * raters_in (take l.other-index l.others);
}
