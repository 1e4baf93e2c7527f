use Rattle.std.proofs.Common.{◌≡◌, ◌+◌, drop}
use Rattle.token_columns.specs.WriteRuns.{is_ordered}
use Rattle.token_columns.proofs.write_faults.is_ordered.Given as goal

abbrev pub invariant-loop-place : goal.invariant-loop-place
invariant-loop-place l = is_ordered l.low (l.place + 1) (drop l.place l.spans) ≡ is_ordered 0 1 l.spans
