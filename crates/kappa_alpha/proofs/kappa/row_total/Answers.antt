use Rattle.std.proofs.Common.{◌≡◌, ◌<◌, arith, sym, ap, ◌∙◌}
use Rattle.label_tracks.specs.Grid.{cell_of}
use Rattle.kappa_alpha.specs.Figures.{row_sum}
use Rattle.kappa_alpha.proofs.Marginals.{row_none, row_more}
use Rattle.kappa_alpha.proofs.kappa.row_total.Goals as goal

pub loop-j-init : goal.loop-j-init
loop-j-init c = record { total = sym (row_none (cell_of c.args.grid.now) c.args.k); small = omega arith }

pub loop-j-preserved : goal.loop-j-preserved
loop-j-preserved c =
    let h : c.loop-j.j < c.args.grid.now.width = omega arith in
    record {
      total = omega (arith, c.loop-j.invariant.total, c.cell-total.ensures, row_more (cell_of c.args.grid.now) c.args.k c.loop-j.j);
      small = omega (arith, c.loop-j.invariant.small, c.cell-total.ensures, c.requires.cells c.args.k c.loop-j.j c.requires.k_in h);
    }

pub returns-clause-exact : goal.returns-clause-exact
returns-clause-exact c =
    let w : c.loop-j.j ≡ c.args.grid.now.width = omega arith in
    c.loop-j.invariant.total ∙ ap (row_sum (cell_of c.args.grid.now) c.args.k) w
