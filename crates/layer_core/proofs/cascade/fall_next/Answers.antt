use Rattle.layer_core.proofs.FallLemmas.{next_among}
use Rattle.layer_core.proofs.cascade.fall_next.Goals as goal

pub returns : goal.returns
returns c = next_among c.args.layer.now c.args.gone c.args.ids.now c.args.fallen.now c.in_ok-before.before c.in_ok-next.next.items c.in_ok-before.ensures c.in_ok-next.ensures
