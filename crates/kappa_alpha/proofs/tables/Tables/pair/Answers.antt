use Rattle.std.proofs.Common.{◌<◌, arith, ap, ◌∙◌, length}
use Rattle.kappa_alpha.specs.Standing.{Standing, confusion_of}
use Rattle.kappa_alpha.specs.Figures.{pair_line, cells_sum}
use Rattle.kappa_alpha.proofs.Readings.{grid_width, grid_small, pair_read, units_read}
use Rattle.kappa_alpha.proofs.tables.Tables.pair.Goals as goal

pub table_sums-sums-requires-clause-narrow : goal.table_sums-sums-requires-clause-narrow
table_sums-sums-requires-clause-narrow c =
    let hb : c.args.b < c.self.inside.raters = omega (arith, c.requires.b_in, ap (λ (s : Standing). s.raters) c.self.view_is) in
    omega (arith, c.self.invariant.tables.width_few, grid_width _ _ _ _ _ _ _ c.self.invariant.tables c.requires.apart hb c.index.ensures)

pub table_sums-sums-requires-clause-cells : goal.table_sums-sums-requires-clause-cells
table_sums-sums-requires-clause-cells c = λ x y hx hy.
    let hb : c.args.b < c.self.inside.raters = omega (arith, c.requires.b_in, ap (λ (s : Standing). s.raters) c.self.view_is) in
    let w = grid_width _ _ _ _ _ _ _ c.self.invariant.tables c.requires.apart hb c.index.ensures in
    grid_small _ _ _ _ _ _ _ x y c.self.invariant.tables c.requires.apart hb c.index.ensures (omega (arith, w, hx)) (omega (arith, w, hy))

pub returns-clause-exact : goal.returns-clause-exact
returns-clause-exact c =
    let hb : c.args.b < c.self.inside.raters = omega (arith, c.requires.b_in, ap (λ (s : Standing). s.raters) c.self.view_is) in
    pair_read _ _ (length c.self.inside.ready.items) _ _ c.args.a c.args.b _ _ _ _ _ c.self.invariant.tables c.requires.apart hb c.index.ensures c.table_sums-sums.ensures.units c.table_sums-sums.ensures.agreed c.table_sums-sums.ensures.expected c.kappa_of_sums.ensures.exact
    ∙ ap (λ (s : Standing). pair_line s c.args.a c.args.b) c.self.view_is

pub returns-clause-cells : goal.returns-clause-cells
returns-clause-cells c =
    let hb : c.args.b < c.self.inside.raters = omega (arith, c.requires.b_in, ap (λ (s : Standing). s.raters) c.self.view_is) in
    units_read _ _ _ _ _ _ _ _ c.self.invariant.tables c.requires.apart hb c.index.ensures c.table_sums-sums.ensures.units
    ∙ ap (λ (s : Standing). cells_sum (confusion_of s.documents c.args.a c.args.b) s.categories s.categories) c.self.view_is
