use Rattle.layer_core.proofs.BackStepLemmas.{alone_is}
use Rattle.layer_core.proofs.joined_classes.alone_rule.Goals as goal

pub returns : goal.returns
returns c = alone_is c.args.conf.now c.args.layer.now c.args.class.now c.class_rule.result c.equiv_members.result c.or.result c.class_rule.ensures c.equiv_members.ensures c.or.ensures
