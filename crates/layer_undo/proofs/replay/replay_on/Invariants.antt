use Rattle.std.proofs.Common.{◌≡◌, ◌+◌, ◌≤◌, length}
use Rattle.layer_undo.specs.Replays.{replay_from}
use Rattle.layer_undo.proofs.replay.replay_on.Given as goal

-- the commands that are left make of the layer so far what all make of the layer before
abbrev pub invariant-loop-left : goal.invariant-loop-left
invariant-loop-left l =
    record {
      same : replay_from l.fn.work.conf (length l.fn.work.text) l.index l.work.layer l.left ≡ replay_from l.fn.work.conf (length l.fn.work.text) l.fn.at l.fn.work.layer l.fn.commands;
      room : l.index + length l.left ≤ 4294967295;
      conf : l.work.conf ≡ l.fn.work.conf;
      text : l.work.text ≡ l.fn.work.text;
    }

abbrev pub decreases-loop-left : goal.decreases-loop-left
decreases-loop-left l = length l.left
