use Rattle.std.proofs.Common.{◌≡◌, ℕ, ◌-◌, ◌*◌, ◌≤◌, ◌^◌, arith, ap, sym, ◌∙◌}
use Rattle.label_tracks.specs.Grid.{cell_of}
use Rattle.kappa_alpha.specs.Figures.{diagonal, same_pairs}
use Rattle.kappa_alpha.proofs.Squares.{pairs_within, below_square, diagonal_none, diagonal_more, same_none, same_more}
use Rattle.kappa_alpha.proofs.alpha.label_sums.Goals as goal

pub loop-c-init : goal.loop-c-init
loop-c-init c = record {
  agreed = sym (diagonal_none (cell_of c.args.coincidences.now));
  values = sym (diagonal_none (cell_of c.args.labels.now));
  same = sym (same_none (λ k. cell_of c.args.labels.now k k));
  agreed_small = omega arith;
  values_small = omega arith;
  same_small = omega arith;
  within = omega arith;
}

pub overflow_add-same : goal.overflow_add-same
overflow_add-same c =
    let small : c.cell-count.result ≤ 2 ^ 28 = omega (arith, c.cell-count.ensures, c.requires.counts c.loop-c.c (omega arith)) in
    let y : c.cell-count.result * c.saturating_sub.result ≤ 2 ^ 56 = rw c.saturating_sub.ensures (below_square c.cell-count.result small) in
    omega (arith, y, c.loop-c.invariant.same_small)

pub loop-c-preserved : goal.loop-c-preserved
loop-c-preserved c =
    let small : c.cell-count.result ≤ 2 ^ 28 = omega (arith, c.cell-count.ensures, c.requires.counts c.loop-c.c (omega arith)) in
    let x : c.cell-count.result * (c.cell-count.result - 1) ≤ 2 ^ 56 = below_square c.cell-count.result small in
    let e : c.cell-count.result * c.saturating_sub.result ≡ c.cell-count.result * (c.cell-count.result - 1) = ap (λ (v : ℕ). c.cell-count.result * v) c.saturating_sub.ensures in
    let here : c.cell-count.result * (c.cell-count.result - 1) ≡ cell_of c.args.labels.now c.loop-c.c c.loop-c.c * (cell_of c.args.labels.now c.loop-c.c c.loop-c.c - 1) = ap (λ (v : ℕ). v * (v - 1)) c.cell-count.ensures in
    record {
      agreed = omega (arith, c.loop-c.invariant.agreed, c.cell-agreed.ensures, diagonal_more (cell_of c.args.coincidences.now) c.loop-c.c);
      values = omega (arith, c.loop-c.invariant.values, c.cell-count.ensures, diagonal_more (cell_of c.args.labels.now) c.loop-c.c);
      same = omega (arith, c.loop-c.invariant.same, e, here, same_more (λ k. cell_of c.args.labels.now k k) c.loop-c.c);
      agreed_small = omega (arith, c.loop-c.invariant.agreed_small, c.cell-agreed.ensures, c.requires.cells c.loop-c.c (omega arith));
      values_small = omega (arith, c.loop-c.invariant.values_small, small);
      same_small = omega (arith, c.loop-c.invariant.same_small, e, x);
      within = omega (arith, c.loop-c.invariant.within, e, pairs_within c.loop-c.values c.cell-count.result);
    }

pub returns-clause-agreed : goal.returns-clause-agreed
returns-clause-agreed c =
    let w : c.loop-c.c ≡ c.args.coincidences.now.width = omega (arith, c.width-c-end.ensures, c.loop-c-test.false) in
    c.loop-c.invariant.agreed ∙ ap (diagonal (cell_of c.args.coincidences.now)) w

pub returns-clause-values : goal.returns-clause-values
returns-clause-values c =
    let w : c.loop-c.c ≡ c.args.coincidences.now.width = omega (arith, c.width-c-end.ensures, c.loop-c-test.false) in
    c.loop-c.invariant.values ∙ ap (diagonal (cell_of c.args.labels.now)) w

pub returns-clause-same : goal.returns-clause-same
returns-clause-same c =
    let w : c.loop-c.c ≡ c.args.coincidences.now.width = omega (arith, c.width-c-end.ensures, c.loop-c-test.false) in
    c.loop-c.invariant.same ∙ ap (same_pairs (λ k. cell_of c.args.labels.now k k)) w
