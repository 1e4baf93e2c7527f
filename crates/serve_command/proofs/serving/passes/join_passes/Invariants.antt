use Rattle.std.proofs.Common.{◌≡◌, ℕ, ◌+◌, ◌<◌, ◌≤◌, true, length}
use Rattle.std.specs.Prelude.{IsSomeAnd, slice_index_or}
use Rattle.serve_command.specs.declared.doors.worker.Worker.{Worker}
use Rattle.serve_command.specs.Serving.Workers.{IsOther}
use Rattle.serve_command.proofs.serving.passes.join_passes.Given as goal

abbrev pub invariant-loop-k : goal.invariant-loop-k
invariant-loop-k g l = record {
  hall : l.first.hall ≡ l.hall.id;
  first : l.first.knows.first ≡ true;
  splits : l.first.knows.splits + 1 ≡ length l.workers;
  stands : l.first.knows.stands_for ≡ l.k;
  size : length l.workers ≡ length l.initial.workers;
  rest : (j : ℕ) (worker : Worker) → l.k ≤ j → j < length l.workers → IsSomeAnd (slice_index_or l.workers j worker).pass (IsOther l.hall.id);
}
