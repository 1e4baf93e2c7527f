use Rattle.std.proofs.Common.{◌+◌, ◌∙◌, ap, drop, arith}
use Rattle.layer_core.specs.Commands.{lower_rule}
use Rattle.layer_core.specs.Near.{lowest_rule}
use Rattle.layer_core.proofs.NearSingleLemmas.{ended, more_ids, no_more_ids}
use Rattle.layer_core.proofs.PairedLemmas.{step_at}
use Rattle.layer_core.proofs.near.lowest_rule.Goals as goal

pub loop-id-preserved : goal.loop-id-preserved
loop-id-preserved c =
    ap (λ o. lower_rule o (lowest_rule c.args.conf.now c.args.characters c.args.layer.now (drop (c.loop-id.id-index + 1) c.args.ids.now)))
    (c.lower_rule-lowest.ensures ∙ ap (lower_rule c.loop-id.lowest) c.annotation_rule.ensures)
    ∙ more_ids c.args.conf.now c.args.characters c.args.layer.now c.loop-id.lowest c.id-item.result (drop c.loop-id.id-index c.args.ids.now) (drop (c.loop-id.id-index + 1) c.args.ids.now) _
    (step_at c.args.ids.now c.loop-id.id-index c.id-item.result c.loop-id-test.true c.id-item.is) c.loop-id.invariant

pub returns : goal.returns
returns c =
    no_more_ids c.args.conf.now c.args.characters c.args.layer.now c.loop-id.lowest (drop c.loop-id.id-index c.args.ids.now) _ (ended c.args.ids.now c.loop-id.id-index (omega arith)) c.loop-id.invariant
