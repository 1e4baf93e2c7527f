use Rattle.std.proofs.Common.{◌<◌, length, ◌∙◌, ap, arith}
use Rattle.layer_undo.specs.Replays.{replay_from}
use Rattle.layer_undo.proofs.TrailLemmas.{front_is, same_step}
use Rattle.layer_undo.proofs.replay.replay_on.Goals as goal

pub loop-left-preserved : goal.loop-left-preserved
loop-left-preserved c =
    let work = c.args.work.now in
    let before = c.loop-left.work in
    let after = c.carry_out.new.work in
    let left = c.loop-left.left.now in
    let some : 0 < length left = omega (arith, c.in-len1-up.len_at_least) in
    let front = front_is left c.command-item.result some c.command-item.is in
    record {
      same = same_step work.conf before.conf work.text before.text c.loop-left.index before.layer after.layer c.command-item.result left _ (replay_from work.conf (length work.text) c.args.at work.layer c.args.commands.now)
          c.loop-left.invariant.conf c.loop-left.invariant.text front c.in_ok-carry_out.ensures.done c.loop-left.invariant.same;
      room = omega (arith, ap length front, c.loop-left.invariant.room);
      conf = c.carry_out.ensures.conf ∙ c.loop-left.invariant.conf;
      text = c.carry_out.ensures.text ∙ c.loop-left.invariant.text;
    }
