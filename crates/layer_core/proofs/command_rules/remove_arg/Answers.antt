use Rattle.std.proofs.Common.{[], ◌∷◌}
use Rattle.layer_core.specs.CommandRules.{event_type, is_event_letter, no_such_argument, of_letters, roles_undeclared}
use Rattle.layer_rules.specs.MarkRules.{argument, first_missing, first_unwanted}
use Rattle.layer_core.proofs.OwnLemmas.{one_more}
use Rattle.layer_core.proofs.command_rules.remove_arg.Goals as goal

pub returns : goal.returns
returns c =
    let arg = c.args.arg.now in
    one_more (first_missing c.args.layer.now (c.args.id ∷ arg.target ∷ [])) (first_unwanted (of_letters is_event_letter c.args.id ∷ argument c.args.conf.now c.args.layer.now arg.target ∷ []))
    (roles_undeclared c.args.conf.now (event_type c.args.layer.now c.args.id) (arg ∷ [])) (no_such_argument c.args.conf.now c.args.layer.now c.args.id arg)
    c.on_arg.result c.no_such_argument.result c.or.result c.or.ensures c.on_arg.ensures c.no_such_argument.ensures
