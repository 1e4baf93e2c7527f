use Rattle.layer_core.proofs.near.later_rule.Goals as goal

pub deep_rule-requires : goal.deep_rule-requires
deep_rule-requires c = (c.args.conf.now, c.requires.was.0, c.requires.was.1)

pub pairs_rule-requires-clause-good : goal.pairs_rule-requires-clause-good
pairs_rule-requires-clause-good c = (c.args.conf.now, c.requires.good)
