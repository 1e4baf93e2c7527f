-- The passes of the workers of a project, and how serving ends.
use Rattle.std.specs.Prelude.{◌≡◌, ℕ, ◌+◌, ◌<◌, true, false, List, length, slice_index_or, IsSomeAnd, Result, Err, ⊤}
use Rattle.atomic_table.specs.Seated.{TableId}
use Rattle.turn_hall.specs.Passes.{PassValue}
use Rattle.serve_command.specs.declared.doors.worker.Worker.{Worker}
use Rattle.program_inputs.specs.declared.trouble.Trouble.TheVariants as trouble
use Rattle.serve_command.specs.declared.serving.serve_end.ServeEnd.{ServeEnd}
use Rattle.serve_command.specs.declared.serving.serve_end.ServeEnd.TheVariants as serve

-- the first pass of a hall, that was split for each other one of so many workers, and to which none was joined
pub record IsFirst (id : TableId) (workers : ℕ) (pass : PassValue) : Type 0 where
  pub hall : pass.hall ≡ id
  pub first : pass.knows.first ≡ true
  pub splits : pass.knows.splits + 1 ≡ workers
  pub stands : pass.knows.stands_for ≡ 1

-- another pass of the hall, to which none was joined
pub record IsOther (id : TableId) (pass : PassValue) : Type 0 where
  pub hall : pass.hall ≡ id
  pub second : pass.knows.first ≡ false
  pub stands : pass.knows.stands_for ≡ 1

-- the first worker has the first pass of a hall, and each other worker another one
pub record HavePasses (id : TableId) (workers : List Worker) : Type 0 where
  pub first : (worker : Worker) → IsSomeAnd (slice_index_or workers 0 worker).pass (IsFirst id (length workers))
  pub others : (k : ℕ) (worker : Worker) → 0 < k → k < length workers → IsSomeAnd (slice_index_or workers k worker).pass (IsOther id)

-- how serving ends where it does not end well: memory ran out, or a door failed
abbrev pub IsServingEnd : ServeEnd → Type 0
IsServingEnd (serve.Trouble why) = why ≡ trouble.Memory
IsServingEnd serve.DoorRefused = ⊥
IsServingEnd serve.DoorFailed = ⊤

-- how many faults a door has counted by an end: one at least where that is that it failed, and none by any other
abbrev pub TellsDoor : Result (Unit {0}) ServeEnd → ℕ → Type 0
TellsDoor (Err serve.DoorFailed) faults = 0 < faults
TellsDoor end faults = faults ≡ 0
