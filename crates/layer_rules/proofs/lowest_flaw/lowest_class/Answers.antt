use Rattle.std.proofs.Common.{◌<◌, sym, ◌∙◌, ap, drop, length, ◌+◌, arith}
use Rattle.layer_model.specs.declared.flaw.FlawPlace.TheVariants as at
use Rattle.layer_rules.specs.LowestFlaw.{class_rule, flaw_at, lower_flaw, lowest_from}
use Rattle.layer_rules.proofs.FlawLemmas.{lower-None, classes_on, dropped, none_left}
use Rattle.layer_rules.proofs.lowest_flaw.lowest_class.Goals as goal

pub loop-index-preserved : goal.loop-index-preserved
loop-index-preserved c =
    let told = class_rule c.args.scene.now.conf.now c.args.scene.now.layer.now in
    let i = c.loop-index.index in
    let below : i < length c.args.classes.now = omega arith in
    ap (λ o. lower_flaw o (lowest_from (i + 1) told (drop (i + 1) c.args.classes.now)))
    (c.lower_flaw-lowest.ensures ∙ ap (lower_flaw c.loop-index.lowest) (c.flaw_at.ensures ∙ ap (flaw_at (at.Class i)) c.class_rule.ensures))
    ∙ classes_on told c.loop-index.lowest (lowest_from 0 told c.args.classes.now) (drop i c.args.classes.now) (drop (i + 1) c.args.classes.now) i c.index-classes-index.result
    (dropped c.args.classes.now i c.index-classes-index.result below c.index-classes-index.is) c.loop-index.invariant

pub returns : goal.returns
returns c =
    let told = class_rule c.args.scene.now.conf.now c.args.scene.now.layer.now in
    sym (lower-None c.loop-index.lowest)
    ∙ sym (ap (λ r. lower_flaw c.loop-index.lowest (lowest_from c.loop-index.index told r)) (none_left c.args.classes.now c.loop-index.index (omega arith)))
    ∙ c.loop-index.invariant
