use Rattle.std.proofs.Common.{sym, subst}
use Rattle.layer_core.specs.Outcomes.{IsIndexedBut, IsSomeWellFormed}
use Rattle.layer_core.proofs.OutcomeLemmas.{indexed_but, put_differs}
use Rattle.layer_core.proofs.ways_back.put_again.Goals as goal

pub kept_in-requires-clause-well_formed : goal.kept_in-requires-clause-well_formed
kept_in-requires-clause-well_formed c = subst IsSomeWellFormed (sym c.in_ok-before.ensures.done) c.requires.well_formed

pub kept_in-requires-clause-index : goal.kept_in-requires-clause-index
kept_in-requires-clause-index c =
    subst (IsIndexedBut c.args.id c.set_again.new.layer) (sym c.take.ensures.value)
    (indexed_but c.set_again.new.layer c.args.layer.now c.args.id c.args.index.now (put_differs c.args.layer.now c.set_again.new.layer c.args.id c.args.mark.now c.in_ok-before.ensures.done) c.requires.index)
