use Rattle.std.proofs.Common.{◌≡◌, ℕ, ◌+◌, ◌<◌, take, Some}
use Rattle.kappa_alpha.specs.Columns.{raters_in}
use Rattle.kappa_alpha.specs.Pairs.{PairsFit, pair_cell, shares}
use Rattle.kappa_alpha.proofs.pairs.shift_shares.Given as goal

abbrev pub invariant-loop-s : goal.invariant-loop-s
invariant-loop-s g l = record {
  fit : PairsFit l.raters l.width l.grids;
  each : (p q c k : ℕ) → p < q → q < l.raters → c < l.width → k < l.width → pair_cell l.raters l.grids p q c k + shares l.before l.r (Some l.x) l.others l.s p q c k ≡ pair_cell l.raters l.fn.grids p q c k + shares l.after l.r (Some l.x) l.others l.s p q c k;
  steps : l.steps ≡ l.fn.steps + raters_in (take l.s l.others);
}
