use Rattle.layer_core.proofs.OwnLemmas.{three}
use Rattle.layer_core.proofs.command_rules.add_relation.Goals as goal

pub returns : goal.returns
returns c =
    three c.undeclared_relation.result c.missing_two.result c.used_up.result c.or-named.result c.or.result c.or-named.ensures c.or.ensures
    c.undeclared_relation.ensures c.missing_two.ensures c.used_up.ensures
