use Rattle.std.proofs.Common.{arith, ◌∙◌}
use Rattle.mark_base.proofs.StreamLemmas.{appends_more_slice}
use Rattle.mark_base.proofs.sink.write_all.Goals as goal

pub loop-done-preserved : goal.loop-done-preserved
loop-done-preserved g c = record {
  in_range = omega (arith, c.in-Ok.ensures.bound);
  written = appends_more_slice _ _ _ c.loop-done.done c.in-Ok.count c.args.piece.now c.loop-done.invariant.in_range c.loop-done.invariant.written c.in-Ok.ensures.bytes;
  still = c.in-Ok.ensures.cause.still ∙ c.loop-done.invariant.still;
  kept = cc;
}
