use Rattle.std.proofs.Common.{◌≡◌, ℕ, ◌<◌, ◌≤◌, List, length, get_or, ◌∙◌, ap, subst}
use Rattle.agreement_report.specs.Report.{row, text_of}
use Rattle.project_machine.specs.ProjectState.{Snapshot}
use Rattle.project_machine.specs.SnapshotsTable.{snapshot_fields}
use Rattle.project_reports.proofs.SnapshotLemmas.{numbered_all, numbered_more}
use Rattle.project_reports.proofs.snapshots.write_snapshots.Goals as goal

pub loop-place-preserved : goal.loop-place-preserved
loop-place-preserved c =
    let s = c.args.state.now.state in
    let of_shot : ℕ × Snapshot → List ℕ = λ placed. row (snapshot_fields s placed.0 placed.1) in
    let all : c.snapshots-snapshot-items.result.now ≡ s.snapshots = c.snapshots-snapshot-items.ensures in
    let within : c.loop-place.place < length s.snapshots = subst (λ (shots : List Snapshot). c.loop-place.place < length shots) all c.loop-place-test.true in
    let here : c.snapshot-item.result ≡ get_or s.snapshots c.loop-place.place c.snapshot-item.result = c.snapshot-item.is ∙ ap (λ (shots : List Snapshot). get_or shots c.loop-place.place c.snapshot-item.result) all in
    record {
      ready = c.in_ok-write_snapshot.ensures.ready;
      written =
          numbered_more of_shot s.snapshots c.loop-place.place c.snapshot-item.result (text_of c.args.writer.now) (text_of c.loop-place.writer) (text_of c.write_snapshot.new.writer) within here c.loop-place.invariant.written
          c.in_ok-write_snapshot.ensures.written;
    }

pub returns-clause-written : goal.returns-clause-written
returns-clause-written c =
    let s = c.args.state.now.state in
    let of_shot : ℕ × Snapshot → List ℕ = λ placed. row (snapshot_fields s placed.0 placed.1) in
    let long : length s.snapshots ≤ c.loop-place.place = subst (λ (shots : List Snapshot). length shots ≤ c.loop-place.place) c.snapshots-snapshot-items.ensures c.loop-place-test.false in
    numbered_all of_shot s.snapshots c.loop-place.place (text_of c.args.writer.now) (text_of c.loop-place.writer) long c.loop-place.invariant.written
