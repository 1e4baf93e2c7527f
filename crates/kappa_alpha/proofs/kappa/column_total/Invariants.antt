use Rattle.std.proofs.Common.{◌≡◌, ◌≤◌, ◌*◌, ◌^◌}
use Rattle.label_tracks.specs.Grid.{cell_of}
use Rattle.kappa_alpha.specs.Figures.{column_sum}
use Rattle.kappa_alpha.proofs.kappa.column_total.Given as goal

abbrev pub invariant-loop-j : goal.invariant-loop-j
invariant-loop-j l = record { total : l.total ≡ column_sum (cell_of l.grid) l.k l.j; small : l.total ≤ l.j * 2 ^ 24 }
