use Rattle.std.proofs.Common.{◌<◌, None, arith, length}
use Rattle.project_machine.specs.History.{under_hold}
use Rattle.project_state.proofs.FrontLemmas.{mapped_more}
use Rattle.project_state.proofs.document.free_rows.Goals as goal

pub loop-row-preserved : goal.loop-row-preserved
loop-row-preserved c =
    let within : c.loop-row.row-index < length c.args.rows.now = omega arith in
    mapped_more (under_hold None) c.loop-row.row-index c.args.rows.now c.loop-row.rows c.row-item.result c.free.new.self within c.loop-row.invariant c.free.ensures
