use Rattle.std.proofs.Common.{rules, not}
use Rattle.std.proofs.lemmas.Fn.{filter_same}
use Rattle.layer_model.specs.Classes.{shares}
use Rattle.layer_model.proofs.class_list.keep_apart.Goals as goal

pub returns-clause-items : goal.returns-clause-items
returns-clause-items c = filter_same _ (λ class. not (shares c.args.kind.n c.args.sought.now class)) _ (λ x b f' r. search rules) _ _ c.retain.ensures.filtered
