use Rattle.std.proofs.Common.{sym, subst}
use Rattle.layer_rules.specs.LowestFlaw.{HasGoodSpans}
use Rattle.layer_core.proofs.OutcomeLemmas.{good_less, index_but, leads_back, less_differs}
use Rattle.layer_core.proofs.outcome.take_alone.Goals as goal

pub taken_in-index-requires-clause-good : goal.taken_in-index-requires-clause-good
taken_in-index-requires-clause-good c = (
  c.requires.good.0,
  subst (HasGoodSpans c.requires.good.0) (sym c.take-before.ensures.rest) (good_less c.requires.good.0 c.args.layer.now c.args.id.kind c.args.id.number c.requires.good.1),
)

pub taken_in-index-requires-clause-index : goal.taken_in-index-requires-clause-index
taken_in-index-requires-clause-index c =
    index_but c.take-before.new.self c.args.layer.now c.args.id c.args.index (less_differs c.args.layer.now c.take-before.new.self c.args.id c.take-before.ensures.rest) c.requires.index

pub returns-clause-back : goal.returns-clause-back
returns-clause-back c =
    leads_back c.args.layer.now c.take-before.new.self c.args.id c.take-before.result c.take-before.ensures.taken
    (less_differs c.args.layer.now c.take-before.new.self c.args.id c.take-before.ensures.rest)
