use Rattle.std.proofs.Common.{refl}
use Rattle.kappa_alpha.specs.declared.tallies.Tallies.{Tallies}
use Rattle.kappa_alpha.proofs.Counts.{held_none}
use Rattle.kappa_alpha.proofs.tallies.no_tallies.Goals as goal

pub returns-clause-empty : goal.returns-clause-empty
returns-clause-empty c =
    let made : Tallies = record { raters = c.args.raters; units = 0; coincidences = c.in_ok-coincidences.coincidences; labels = c.in_ok-labels.labels; pairs = c.in_ok-pairs.pairs } in
    held_none made c.args.raters c.args.categories c.in_ok-coincidences.ensures.zeros c.in_ok-labels.ensures.zeros c.in_ok-pairs.ensures.fit.whole c.in_ok-pairs.ensures.empty refl refl
