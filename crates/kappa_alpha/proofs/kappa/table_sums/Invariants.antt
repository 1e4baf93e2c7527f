use Rattle.std.proofs.Common.{◌≡◌, ◌≤◌, ◌*◌, ◌^◌}
use Rattle.label_tracks.specs.Grid.{cell_of}
use Rattle.kappa_alpha.specs.Figures.{cells_sum, chance, diagonal}
use Rattle.kappa_alpha.proofs.kappa.table_sums.Given as goal

abbrev pub invariant-loop-k : goal.invariant-loop-k
invariant-loop-k l = record {
  units : l.units ≡ cells_sum (cell_of l.grid) l.grid.width l.k;
  agreed : l.agreed ≡ diagonal (cell_of l.grid) l.k;
  expected : l.expected ≡ chance (cell_of l.grid) l.grid.width l.k;
  units_small : l.units ≤ l.k * 2 ^ 30;
  agreed_small : l.agreed ≤ l.k * 2 ^ 24;
  expected_small : l.expected ≤ l.k * 2 ^ 60;
}
