use Rattle.std.proofs.Common.{◌≡◌, ℕ, ◌<◌, length, get_or}
use Rattle.kappa_alpha.specs.Pairs.{IsEmpty, no_grid}
use Rattle.kappa_alpha.proofs.tallies.pair_grids.Given as goal

abbrev pub invariant-loop : goal.invariant-loop
invariant-loop l = record {
  count : length l.grids.items ≡ l.counter;
  widths : (i : ℕ) → i < length l.grids.items → (get_or l.grids.items i no_grid).width ≡ l.categories;
  empty : IsEmpty l.grids.items;
}
