use Rattle.std.proofs.Common.{◌+◌, ◌∙◌, ap, drop, arith}
use Rattle.layer_core.specs.Commands.{lower_rule}
use Rattle.layer_core.specs.Near.{lowest_class_rule}
use Rattle.layer_core.proofs.NearSingleLemmas.{ended, more_classes, no_more_classes}
use Rattle.layer_core.proofs.PairedLemmas.{step_at}
use Rattle.layer_core.proofs.near.lowest_class_rule.Goals as goal

pub loop-class-preserved : goal.loop-class-preserved
loop-class-preserved c =
    ap (λ o. lower_rule o (lowest_class_rule c.args.conf.now c.args.layer.now c.args.id (drop (c.loop-class.class-index + 1) c.args.classes.now)))
    (c.lower_rule-lowest.ensures ∙ ap (lower_rule c.loop-class.lowest) c.class_near.ensures)
    ∙ more_classes c.args.conf.now c.args.layer.now c.args.id c.loop-class.lowest c.class-item.result (drop c.loop-class.class-index c.args.classes.now) (drop (c.loop-class.class-index + 1) c.args.classes.now) _
    (step_at c.args.classes.now c.loop-class.class-index c.class-item.result c.loop-class-test.true c.class-item.is) c.loop-class.invariant

pub returns : goal.returns
returns c =
    no_more_classes c.args.conf.now c.args.layer.now c.args.id c.loop-class.lowest (drop c.loop-class.class-index c.args.classes.now) _ (ended c.args.classes.now c.loop-class.class-index (omega arith)) c.loop-class.invariant
