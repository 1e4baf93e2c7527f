use Rattle.std.proofs.Common.{◌≡◌, ◌∙◌, ap}
use Rattle.layer_core.specs.Commands.{lower_rule}
use Rattle.layer_core.specs.Near.{lowest_class_rule, lowest_rule, near_ids, single_near}
use Rattle.layer_core.proofs.near.single_rule.Goals as goal

pub returns : goal.returns
unfolding single_near
returns c =
    let marks : c.lowest_rule-marks.result ≡ lowest_rule c.args.conf.now c.args.characters c.args.layer.now (near_ids c.args.layer.now c.args.id) =
    c.lowest_rule-marks.ensures ∙ ap (lowest_rule c.args.conf.now c.args.characters c.args.layer.now) (c.deref.ensures.value ∙ c.in_ok-ids.ensures) in
    let classes : c.lowest_class_rule-classes.result ≡ lowest_class_rule c.args.conf.now c.args.layer.now c.args.id c.args.layer.now.classes =
    c.lowest_class_rule-classes.ensures ∙ ap (lowest_class_rule c.args.conf.now c.args.layer.now c.args.id) c.classes.ensures in
    c.lower_rule.ensures ∙ (λ i. lower_rule (marks i) (classes i))
