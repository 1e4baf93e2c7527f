use Rattle.std.proofs.Common.{◌<◌, arith, length}
use Rattle.project_machine.specs.History.{freed}
use Rattle.project_state.proofs.FrontLemmas.{mapped_more}
use Rattle.project_state.proofs.acting.free_documents.Goals as goal

pub loop-document-preserved : goal.loop-document-preserved
loop-document-preserved c =
    let within : c.loop-document.document-index < length c.args.documents.now = omega arith in
    mapped_more freed c.loop-document.document-index c.args.documents.now c.loop-document.documents c.document-item.result c.free.new.self within c.loop-document.invariant c.free.ensures
