use Rattle.std.proofs.Common.{take}
use Rattle.checkpoint.specs.Runs.{IsReadTo}
use Rattle.checkpoint.proofs.restored.read_all.Given as goal

abbrev pub invariant-loop-place : goal.invariant-loop-place
invariant-loop-place l = IsReadTo (take l.place l.entries) l.so_far
