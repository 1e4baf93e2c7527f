use Rattle.layer_core.proofs.OwnLemmas.{three}
use Rattle.layer_core.proofs.command_rules.clear_attribute.Goals as goal

pub returns : goal.returns
returns c =
    λ conf. three c.missing.result c.no_attribute.result c.in_use.result c.or.result c.or-2.result c.or.ensures c.or-2.ensures
    c.missing.ensures c.no_attribute.ensures (c.in_use.ensures c.args.layer.now c.args.id c.requires)
