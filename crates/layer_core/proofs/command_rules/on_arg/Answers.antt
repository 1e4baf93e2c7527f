use Rattle.layer_core.proofs.OwnLemmas.{three}
use Rattle.layer_core.proofs.command_rules.on_arg.Goals as goal

pub returns : goal.returns
returns c =
    three c.missing_two.result c.unwanted_two.result c.event_role_unknown.result c.or.result c.or-2.result c.or.ensures c.or-2.ensures
    c.missing_two.ensures c.unwanted_two.ensures c.event_role_unknown.ensures
