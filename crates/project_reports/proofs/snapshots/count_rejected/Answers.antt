use Rattle.std.proofs.Common.{arith}
use Rattle.project_machine.specs.SnapshotsTable.{accepts}
use Rattle.project_reports.proofs.CountLemmas.{count_either}
use Rattle.project_reports.proofs.snapshots.count_rejected.Goals as goal

pub returns : goal.returns
returns c =
    let either = count_either (λ one. accepts one.1) c.args.decisions.now in
    let count = c.count.ensures in
    let accepted = c.requires in
    omega (arith, either, count, accepted)
