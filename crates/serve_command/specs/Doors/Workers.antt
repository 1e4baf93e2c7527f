-- Workers that share a project, and what serving makes of them.
use Rattle.std.specs.Prelude.{◌≡◌, ◌≢◌, ℕ, ◌<◌, ◌≤◌, Some, IsSomeAnd}
use mathlib.Core.List.{IsPrefix}
use Rattle.atomic_table.specs.Seated.{TableId}
use Rattle.project_machine.specs.Asking.{Visiting}
use Rattle.turn_hall.specs.Passes.{PassValue, IsSamePass}
use Rattle.serve_command.specs.declared.doors.worker.Worker.{Worker}
use Rattle.serve_command.specs.declared.doors.worker.WorkerEnd.{WorkerEnd}
use Rattle.serve_command.specs.declared.doors.worker.WorkerEnd.TheVariants.{DoorEnded, DoorFailed, Drawn}

-- a worker has a pass of a hall
abbrev pub HasPass : TableId → Worker → Type 0
HasPass id worker = IsSomeAnd worker.pass (λ pass. pass.hall ≡ id)

-- a pass is of the same hall and tells the same three values; what it has seen and its own places begin with those from before
pub record Served (old new : PassValue) : Type 0 where
  pub same : IsSamePass old new
  pub seen : IsPrefix old.knows.seen new.knows.seen
  pub mine : IsPrefix old.knows.mine new.knows.mine

-- why a worker stopped whose pass may still ask so often: `Drawn` exactly where that is too seldom for one more connection, and the door's end and its fault only where its type does not rule them out
pub record Stopped (sure endless : Type 0) (room : ℕ) (end : WorkerEnd) : Type 0 where
  pub drawn : end ≡ Drawn → room < 1000002
  pub goes_on : end ≢ Drawn → 1000002 ≤ room
  pub failed : sure → end ≢ DoorFailed
  pub ended : endless → end ≢ DoorEnded

-- a worker has served: it has its pass again, and why it stopped
pub record Serves (sure endless : Type 0) (old new : Worker) : Type 0 where
  pub served : (pass : PassValue) → old.pass ≡ Some pass → IsSomeAnd new.pass (Served pass)
  pub stopped : IsSomeAnd new.pass (λ pass. IsSomeAnd new.end (Stopped sure endless pass.knows.room))

-- what a visitor has seen and its own places begin with those from before, and its numbers stay
pub record Continues (old new : Visiting) : Type 0 where
  pub badge : new.badge ≡ old.badge
  pub seen : IsPrefix old.seen new.seen
  pub mine : IsPrefix old.mine new.mine
