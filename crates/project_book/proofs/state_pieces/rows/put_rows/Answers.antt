use Rattle.std.proofs.Common.{arith}
use Rattle.project_machine.specs.Entries.{rows_pieces}
use Rattle.project_machine.specs.ProjectState.{no_document}
use Rattle.project_book.proofs.StatePiecesProofs.RunLemmas.{told_numbered, told_numbered_more}
use Rattle.project_book.proofs.state_pieces.rows.put_rows.Goals as goal

pub loop-doc-preserved : goal.loop-doc-preserved
loop-doc-preserved c =
    let s = c.args.state.now.state in
    told_numbered_more (rows_pieces s) s.documents c.args.run.now c.loop-doc.run c.put_rows_of.new.run c.loop-doc.doc no_document (omega arith) c.loop-doc.invariant c.in_ok-put_rows_of.ensures

pub returns : goal.returns
returns c =
    let s = c.args.state.now.state in
    told_numbered (rows_pieces s) s.documents c.args.run.now c.loop-doc.run c.loop-doc.doc (omega arith) c.loop-doc.invariant
