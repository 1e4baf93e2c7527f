use Rattle.layer_core.proofs.PairSets.{take_keeps}
use Rattle.layer_core.proofs.index.take_pairs.Goals as goal

pub loop-id-preserved : goal.loop-id-preserved
loop-id-preserved c named namer other there =
    take_keeps c.loop-id.pairs c.remove.new.self c.rank.result c.args.namer c.remove.ensures.updates named namer other (c.loop-id.invariant named namer other there)
