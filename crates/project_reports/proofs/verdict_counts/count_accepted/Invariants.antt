use Rattle.std.proofs.Common.{◌≡◌, ◌≤◌, take, count_by}
use Rattle.project_machine.specs.SnapshotsTable.{accepts}
use Rattle.project_reports.proofs.verdict_counts.count_accepted.Given as goal

abbrev pub invariant-loop-i : goal.invariant-loop-i
invariant-loop-i l = record {
  counted : l.accepted ≡ count_by (λ one. accepts one.1) (take l.i l.decisions);
  few : l.accepted ≤ l.i;
}
