use Rattle.std.proofs.Common.{◌≡◌, ℕ, ◌+◌, ◌<◌, take}
use Rattle.label_tracks.specs.Grid.{cell_of}
use Rattle.kappa_alpha.specs.Columns.{raters_in}
use Rattle.kappa_alpha.specs.Counted.{tally}
use Rattle.kappa_alpha.proofs.diagonal.shift_diagonal.Given as goal

abbrev pub invariant-loop-label : goal.invariant-loop-label
invariant-loop-label g l = record {
  width : l.labels.width ≡ l.fn.labels.width;
  each : (c : ℕ) → c < l.fn.labels.width → cell_of l.labels c c + tally l.before c (take l.label-index l.column) ≡ cell_of l.fn.labels c c + tally l.after c (take l.label-index l.column);
  steps : l.steps ≡ l.fn.steps + raters_in (take l.label-index l.column);
}
