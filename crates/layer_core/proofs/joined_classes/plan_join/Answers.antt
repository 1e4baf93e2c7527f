use Rattle.layer_core.proofs.BackStepLemmas.{planned}
use Rattle.layer_core.proofs.joined_classes.plan_join.Goals as goal

pub returns-clause-rule : goal.returns-clause-rule
returns-clause-rule c =
    planned c.args.conf.now c.args.layer.now c.args.kind c.args.members.now c.in_ok-all.all.items c.classes.result.now c.in_ok-sharing.sharing.items c.deref.result.now c.in_ok-broken.broken c.one_too_many-many.result c.or.result
    c.classes.ensures c.in_ok-sharing.ensures c.deref.ensures.value c.in_ok-all.ensures c.in_ok-broken.ensures c.one_too_many-many.ensures c.or.ensures
