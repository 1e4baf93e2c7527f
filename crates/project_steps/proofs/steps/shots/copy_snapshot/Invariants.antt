use Rattle.std.proofs.Common.{◌≡◌, map, take}
use Rattle.layer_model.specs.Snapshots.{row_of}
use Rattle.project_steps.proofs.steps.shots.copy_snapshot.Given as goal

abbrev pub invariant-loop-place : goal.invariant-loop-place
invariant-loop-place l = map row_of l.rows.items ≡ take l.place l.snapshot
