use Rattle.std.proofs.Common.{sym, ◌∙◌, ap}
use Rattle.std.specs.Option.{option_copied, option_map}
use Rattle.layer_model.specs.declared.rule.Rule.TheVariants.{SameRelation}
use Rattle.layer_core.proofs.NearOtherLemmas.{relation_alone}
use Rattle.layer_core.proofs.near.same_relation.Goals as goal

pub returns-in_default : goal.returns-in_default
returns-in_default c = sym (ap (option_map SameRelation) (relation_alone c.args.layer.now c.args.id (sym (ap option_copied c.in_default.is) ∙ c.relation_of.ensures)))
