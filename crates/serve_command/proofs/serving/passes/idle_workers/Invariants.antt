use Rattle.std.proofs.Common.{◌≡◌, length}
use Rattle.serve_command.proofs.serving.passes.idle_workers.Given as goal

abbrev pub invariant-loop : goal.invariant-loop
invariant-loop l = length l.workers.items ≡ l.counter
