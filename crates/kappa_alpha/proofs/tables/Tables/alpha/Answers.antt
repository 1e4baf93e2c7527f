use Rattle.std.proofs.Common.{arith, ap, ◌∙◌, length}
use Rattle.kappa_alpha.specs.Standing.{Standing}
use Rattle.kappa_alpha.specs.Figures.{alpha_line}
use Rattle.kappa_alpha.proofs.Readings.{coincidence_small, label_small, alpha_read}
use Rattle.kappa_alpha.proofs.tables.Tables.alpha.Goals as goal

pub label_sums-sums-requires-clause-cells : goal.label_sums-sums-requires-clause-cells
label_sums-sums-requires-clause-cells c = λ x h. coincidence_small _ _ _ _ x c.self.invariant.tables (omega (arith, h, c.self.invariant.tables.shape.coincidences))

pub label_sums-sums-requires-clause-counts : goal.label_sums-sums-requires-clause-counts
label_sums-sums-requires-clause-counts c = λ x h. label_small _ _ _ _ x c.self.invariant.tables (omega (arith, h, c.self.invariant.tables.shape.coincidences))

pub returns-clause-exact : goal.returns-clause-exact
returns-clause-exact c =
    alpha_read _ _ (length c.self.inside.ready.items) _ _ _ _ _ _ c.self.invariant.tables c.label_sums-sums.ensures.agreed c.label_sums-sums.ensures.values c.label_sums-sums.ensures.same c.alpha_of_sums.ensures.exact
    ∙ ap (λ (s : Standing). alpha_line s) c.self.view_is
