use Rattle.std.proofs.Common.{◌<◌, arith, ap, ◌∙◌}
use Rattle.kappa_alpha.specs.Standing.{Standing, confusion_of}
use Rattle.kappa_alpha.proofs.Readings.{grid_width, grid_cell}
use Rattle.kappa_alpha.proofs.tables.Tables.confusion.Goals as goal

pub cell-requires-clause-c_in : goal.cell-requires-clause-c_in
cell-requires-clause-c_in c =
    let hb : c.args.b < c.self.inside.raters = omega (arith, c.requires.b_in, ap (λ (s : Standing). s.raters) c.self.view_is) in
    let hc : c.args.c < c.self.inside.categories = omega (arith, c.requires.c_in, ap (λ (s : Standing). s.categories) c.self.view_is) in
    omega (arith, hc, grid_width _ _ _ _ _ _ _ c.self.invariant.tables c.requires.apart hb c.index.ensures)

pub cell-requires-clause-k_in : goal.cell-requires-clause-k_in
cell-requires-clause-k_in c =
    let hb : c.args.b < c.self.inside.raters = omega (arith, c.requires.b_in, ap (λ (s : Standing). s.raters) c.self.view_is) in
    let hk : c.args.k < c.self.inside.categories = omega (arith, c.requires.k_in, ap (λ (s : Standing). s.categories) c.self.view_is) in
    omega (arith, hk, grid_width _ _ _ _ _ _ _ c.self.invariant.tables c.requires.apart hb c.index.ensures)

pub returns : goal.returns
returns c =
    let hb : c.args.b < c.self.inside.raters = omega (arith, c.requires.b_in, ap (λ (s : Standing). s.raters) c.self.view_is) in
    let hc : c.args.c < c.self.inside.categories = omega (arith, c.requires.c_in, ap (λ (s : Standing). s.categories) c.self.view_is) in
    let hk : c.args.k < c.self.inside.categories = omega (arith, c.requires.k_in, ap (λ (s : Standing). s.categories) c.self.view_is) in
    c.cell.ensures ∙ grid_cell _ _ _ _ _ _ _ c.args.c c.args.k c.self.invariant.tables c.requires.apart hb c.index.ensures hc hk
    ∙ ap (λ (s : Standing). confusion_of s.documents c.args.a c.args.b c.args.c c.args.k) c.self.view_is
