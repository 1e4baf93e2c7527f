use Rattle.std.proofs.Common.{◌≡◌, ◌-◌, ◌*◌, ◌≤◌, ◌^◌}
use Rattle.label_tracks.specs.Grid.{cell_of}
use Rattle.kappa_alpha.specs.Figures.{diagonal, same_pairs}
use Rattle.kappa_alpha.proofs.alpha.label_sums.Given as goal

abbrev pub invariant-loop-c : goal.invariant-loop-c
invariant-loop-c l = record {
  agreed : l.agreed ≡ diagonal (cell_of l.coincidences) l.c;
  values : l.values ≡ diagonal (cell_of l.labels) l.c;
  same : l.same ≡ same_pairs (λ c. cell_of l.labels c c) l.c;
  agreed_small : l.agreed ≤ l.c * 2 ^ 52;
  values_small : l.values ≤ l.c * 2 ^ 28;
  same_small : l.same ≤ l.c * 2 ^ 56;
  within : l.same ≤ l.values * (l.values - 1);
}
