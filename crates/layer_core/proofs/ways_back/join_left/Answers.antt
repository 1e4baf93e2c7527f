use Rattle.std.proofs.Common.{◌<◌, ◌-◌, length, take, arith}
use Rattle.std.proofs.lemmas.List.{length-take-le}
use Rattle.layer_core.proofs.BackStepLemmas.{last_is, left_step}
use Rattle.layer_core.proofs.ways_back.join_left.Goals as goal

pub loop-more-preserved : goal.loop-more-preserved
loop-more-preserved c =
    let more_ = c.loop-more.more.now in
    let some : 0 < length more_ = omega (arith, c.in-len1-up.len_at_least) in
    let last = last_is more_ c.class-item.result some c.class-item.is in
    record {
      same = left_step c.loop-more.layer c.join_beside.new.layer c.args.layer.now c.args.id more_ (take (length more_ - 1) more_) c.args.left.now c.class-item.result last c.in_ok-join_beside.ensures.done c.loop-more.invariant.same;
      short = omega (arith, length-take-le (length more_ - 1) more_ (omega arith), c.loop-more.invariant.short);
    }
