use Rattle.std.proofs.Common.{◌≡◌, ◌++◌, take}
use Rattle.std.specs.List.{enumerate_from, flat_map}
use Rattle.agreement_report.specs.Report.{IsReady, row, text_of}
use Rattle.project_machine.specs.SnapshotsTable.{snapshot_fields}
use Rattle.project_reports.proofs.snapshots.write_snapshots.Given as goal

abbrev pub invariant-loop-place : goal.invariant-loop-place
invariant-loop-place l = record {
  ready : IsReady l.writer;
  written : text_of l.writer ≡ text_of l.initial.writer ++ flat_map (λ placed. row (snapshot_fields l.state.state placed.0 placed.1)) (take l.place (enumerate_from 1 l.state.state.snapshots));
}
