use Rattle.std.proofs.Common.{take}
use Rattle.project_machine.specs.Opening.{IsReplay}
use Rattle.project_book.proofs.replaying.replay_rest.Given as goal

abbrev pub invariant-loop-place : goal.invariant-loop-place
invariant-loop-place g l = IsReplay (take l.place l.entries) l.book.log
