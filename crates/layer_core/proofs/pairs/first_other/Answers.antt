use Rattle.std.proofs.Common.{sym, ◌∙◌}
use Rattle.layer_model.specs.Layers.{mark_at}
use Rattle.layer_core.proofs.PairedLemmas.{found_other, passed_other, step_at}
use Rattle.layer_core.proofs.pairs.first_other.Goals as goal

pub returns-then-pairs_other : goal.returns-then-pairs_other
returns-then-pairs_other g c =
    sym (found_other (g.P.Pairs.told c.args.pairs.now) c.args.layer.now c.args.id c.other-item.result _ _ (mark_at c.args.layer.now c.args.id)
    (step_at c.args.ids.now c.loop-other.other-index c.other-item.result c.loop-other-test.true c.other-item.is) (sym c.pairs_other.ensures ∙ c.if-pairs_other.true))
    ∙ c.loop-other.invariant

pub loop-other-preserved : goal.loop-other-preserved
loop-other-preserved g c =
    sym (passed_other (g.P.Pairs.told c.args.pairs.now) c.args.layer.now c.args.id c.other-item.result _ _ (mark_at c.args.layer.now c.args.id)
    (step_at c.args.ids.now c.loop-other.other-index c.other-item.result c.loop-other-test.true c.other-item.is) (sym c.pairs_other.ensures ∙ c.if-pairs_other.false))
    ∙ c.loop-other.invariant
