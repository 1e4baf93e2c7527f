use Rattle.std.proofs.Common.{◌≡◌, ◌≤◌, ◌<◌, ◌*◌, ◌^◌, arith, sym, ap, ◌∙◌}
use Rattle.label_tracks.specs.Grid.{cell_of}
use Rattle.kappa_alpha.specs.Figures.{cells_sum, chance, diagonal, row_sum, column_sum}
use Rattle.kappa_alpha.proofs.Marginals.{units_none, units_more, chance_none, chance_more, chance_within, small_product}
use Rattle.kappa_alpha.proofs.Squares.{diagonal_none, diagonal_more}
use Rattle.kappa_alpha.proofs.kappa.table_sums.Goals as goal

pub loop-k-init : goal.loop-k-init
loop-k-init c = record {
  units = sym (units_none (cell_of c.args.grid.now) c.args.grid.now.width);
  agreed = sym (diagonal_none (cell_of c.args.grid.now));
  expected = sym (chance_none (cell_of c.args.grid.now) c.args.grid.now.width);
  units_small = omega arith;
  agreed_small = omega arith;
  expected_small = omega arith;
}

pub loop-k-preserved : goal.loop-k-preserved
loop-k-preserved c =
    let h : c.loop-k.k < c.args.grid.now.width = omega arith in
    let p : c.row_total-row.result * c.column_total-column.result ≤ 2 ^ 60 = small_product c.row_total-row.result c.column_total-column.result c.row_total-row.ensures.small c.column_total-column.ensures.small in
    let e : c.row_total-row.result * c.column_total-column.result ≡ row_sum (cell_of c.args.grid.now) c.loop-k.k c.args.grid.now.width * column_sum (cell_of c.args.grid.now) c.loop-k.k c.args.grid.now.width =
    ap (λ v. v * c.column_total-column.result) c.row_total-row.ensures.exact ∙ ap (λ v. row_sum (cell_of c.args.grid.now) c.loop-k.k c.args.grid.now.width * v) c.column_total-column.ensures.exact in
    record {
      units = omega (arith, c.loop-k.invariant.units, c.row_total-row.ensures.exact, units_more (cell_of c.args.grid.now) c.args.grid.now.width c.loop-k.k);
      agreed = omega (arith, c.loop-k.invariant.agreed, c.cell-agreed.ensures, diagonal_more (cell_of c.args.grid.now) c.loop-k.k);
      expected = omega (arith, c.loop-k.invariant.expected, e, chance_more (cell_of c.args.grid.now) c.args.grid.now.width c.loop-k.k);
      units_small = omega (arith, c.loop-k.invariant.units_small, c.row_total-row.ensures.small);
      agreed_small = omega (arith, c.loop-k.invariant.agreed_small, c.cell-agreed.ensures, c.requires.cells c.loop-k.k c.loop-k.k h h);
      expected_small = omega (arith, c.loop-k.invariant.expected_small, p);
    }

pub returns-clause-units : goal.returns-clause-units
returns-clause-units c =
    let w : c.loop-k.k ≡ c.args.grid.now.width = omega arith in
    c.loop-k.invariant.units ∙ ap (cells_sum (cell_of c.args.grid.now) c.args.grid.now.width) w

pub returns-clause-agreed : goal.returns-clause-agreed
returns-clause-agreed c =
    let w : c.loop-k.k ≡ c.args.grid.now.width = omega arith in
    c.loop-k.invariant.agreed ∙ ap (diagonal (cell_of c.args.grid.now)) w

pub returns-clause-expected : goal.returns-clause-expected
returns-clause-expected c =
    let w : c.loop-k.k ≡ c.args.grid.now.width = omega arith in
    c.loop-k.invariant.expected ∙ ap (chance (cell_of c.args.grid.now) c.args.grid.now.width) w

pub returns-clause-within : goal.returns-clause-within
returns-clause-within c =
    let w : c.loop-k.k ≡ c.args.grid.now.width = omega arith in
    let eu : c.loop-k.units ≡ cells_sum (cell_of c.args.grid.now) c.args.grid.now.width c.args.grid.now.width = c.loop-k.invariant.units ∙ ap (cells_sum (cell_of c.args.grid.now) c.args.grid.now.width) w in
    let ec : c.loop-k.expected ≡ chance (cell_of c.args.grid.now) c.args.grid.now.width c.args.grid.now.width = c.loop-k.invariant.expected ∙ ap (chance (cell_of c.args.grid.now) c.args.grid.now.width) w in
    rw (ec, eu) (chance_within (cell_of c.args.grid.now) c.args.grid.now.width)
