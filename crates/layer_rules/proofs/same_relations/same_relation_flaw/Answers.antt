use Rattle.std.proofs.Common.{◌≡◌, map, [], sym, ◌∙◌, ap}
use Rattle.std.specs.FinMap as finite
use Rattle.std.specs.Option.{option_map}
use Rattle.mark_base.specs.declared.ann_id.Kind.TheVariants as letter
use Rattle.layer_model.specs.declared.rule.Rule.TheVariants.{SameRelation}
use Rattle.layer_rules.specs.Repeats.{keyed, repeat_after, shown, relation_key}
use Rattle.layer_rules.proofs.PairLemmas.{flaw_of}
use Rattle.layer_rules.proofs.SameRelationLemmas.{same_relation_found}
use Rattle.layer_rules.proofs.same_relations.same_relation_flaw.Goals as goal

pub returns-in-Some : goal.returns-in-Some
returns-in-Some c =
    let is : c.in_ok-repeat.repeat ≡ repeat_after [] (keyed letter.Relation relation_key (finite.entries c.args.layer.now.relations)) =
    c.in_ok-repeat.ensures ∙ ap (repeat_after []) (ap (map shown) c.as_slice.ensures.value ∙ c.in_ok-all.ensures ∙ ap (λ m. keyed letter.Relation relation_key (finite.entries m)) c.relations.ensures) in
    ap (option_map (flaw_of SameRelation)) (sym c.in-Some.is ∙ is) ∙ same_relation_found c.args.layer.now c.keeps.ensures

pub returns : goal.returns
returns c =
    let is : c.in_ok-repeat.repeat ≡ repeat_after [] (keyed letter.Relation relation_key (finite.entries c.args.layer.now.relations)) =
    c.in_ok-repeat.ensures ∙ ap (repeat_after []) (ap (map shown) c.as_slice.ensures.value ∙ c.in_ok-all.ensures ∙ ap (λ m. keyed letter.Relation relation_key (finite.entries m)) c.relations.ensures) in
    ap (option_map (flaw_of SameRelation)) (sym c.in-None.is ∙ is) ∙ same_relation_found c.args.layer.now c.keeps.ensures
