use Rattle.std.proofs.Common.{◌≡◌, ◌≤◌, ◌-◌, vec_len, replicate}
use Rattle.project_machine.specs.ProjectState.{blank_row}
use Rattle.checkpoint.proofs.told_document.blank_rows.Given as goal

abbrev pub invariant-loop-alloc : goal.invariant-loop-alloc
invariant-loop-alloc l = record { made : l.rows.items ≡ replicate (vec_len l.rows) blank_row; few : vec_len l.rows ≤ l.count }

abbrev pub decreases-loop-alloc : goal.decreases-loop-alloc
decreases-loop-alloc l = l.count - vec_len l.rows
