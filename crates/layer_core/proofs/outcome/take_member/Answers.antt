use Rattle.std.proofs.Common.{Some, sym, subst}
use Rattle.layer_rules.specs.LowestFlaw.{HasGoodSpans}
use Rattle.layer_core.specs.Indexes.{IsIndex}
use Rattle.layer_core.proofs.BackStepLemmas.{gone_differs, gone_good}
use Rattle.layer_core.proofs.outcome.take_member.Goals as goal

pub taken_out-index-requires-clause-good : goal.taken_out-index-requires-clause-good
taken_out-index-requires-clause-good c = (
  c.requires.good.0,
  subst (HasGoodSpans c.requires.good.0) (sym c.in-Ok.ensures.gone) (gone_good c.requires.good.0 c.args.layer.now c.args.id c.requires.good.1),
)

pub taken_out-index-requires-clause-index : goal.taken_out-index-requires-clause-index
taken_out-index-requires-clause-index c =
    subst (λ l. IsIndex (Some c.args.id) l c.args.index) (sym c.in-Ok.ensures.gone) (gone_differs c.args.layer.now c.args.id c.args.index c.requires.index)
