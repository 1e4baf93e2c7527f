use Rattle.std.proofs.Common.{◌≡◌, ◌∙◌}
use Rattle.std.specs.Option.{option_map, option_or}
use Rattle.layer_model.specs.declared.rule.Rule.TheVariants.{AttributeThere, SameEvent, SameRelation}
use Rattle.layer_rules.specs.LayerRules.{same_attributes, same_events, same_relations}
use Rattle.layer_core.specs.Near.{other_pair, pairs_near}
use Rattle.layer_core.proofs.near.pairs_rule.Goals as goal

pub returns : goal.returns
unfolding pairs_near
returns c =
    let events : c.in_ok-events.events ≡ option_map SameEvent (other_pair same_events c.args.layer.now c.args.id) = c.in_ok-events.ensures in
    let relations : c.in_ok-relations.relations ≡ option_map SameRelation (other_pair same_relations c.args.layer.now c.args.id) = c.in_ok-relations.ensures in
    let attributes : c.in_ok-attributes.attributes ≡ option_map AttributeThere (other_pair same_attributes c.args.layer.now c.args.id) = c.in_ok-attributes.ensures in
    let last_ = c.or.ensures ∙ (λ i. option_or (relations i) (attributes i)) in
    let rest = c.or-2.ensures ∙ (λ i. option_or (events i) (last_ i)) in
    c.or-3.ensures ∙ (λ i. option_or (c.same_span-spans.ensures i) (rest i))
