use Rattle.std.proofs.Common.{option_map, ◌∙◌, ap}
use Rattle.layer_model.specs.declared.rule.Rule.TheVariants.{InUse}
use Rattle.layer_core.proofs.SubjectLemmas.{first_of_namers}
use Rattle.layer_core.proofs.first_annotation.in_use.Goals as goal

pub returns-in-Some : goal.returns-in-Some
returns-in-Some c = λ layer id are. ap (option_map InUse) (c.in-Some.ensures.value ∙ first_of_namers layer id c.args.namers.now are)

pub returns-in-None : goal.returns-in-None
returns-in-None c = λ layer id are. ap (option_map InUse) (c.in-None.ensures.value ∙ first_of_namers layer id c.args.namers.now are)
