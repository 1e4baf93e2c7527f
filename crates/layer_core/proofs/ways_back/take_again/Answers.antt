use Rattle.std.proofs.Common.{sym, subst}
use Rattle.layer_core.specs.Outcomes.{IsIndexedBut, IsSomeWellFormed}
use Rattle.layer_core.proofs.OutcomeLemmas.{indexed_but, less_differs}
use Rattle.layer_core.proofs.ways_back.take_again.Goals as goal

pub kept_in-requires-clause-well_formed : goal.kept_in-requires-clause-well_formed
kept_in-requires-clause-well_formed c = subst IsSomeWellFormed (sym c.take-before.ensures.rest) c.requires.well_formed

pub kept_in-requires-clause-index : goal.kept_in-requires-clause-index
kept_in-requires-clause-index c =
    subst (IsIndexedBut c.args.id c.take-before.new.self) (sym c.take.ensures.value)
    (indexed_but c.take-before.new.self c.args.layer.now c.args.id c.args.index.now (less_differs c.args.layer.now c.take-before.new.self c.args.id c.take-before.ensures.rest) c.requires.index)
