use Rattle.std.proofs.Common.{◌∙◌, ◌++◌, List, ap, map}
use Rattle.std.specs.List.{enumerate_from, flat_map}
use Rattle.entry_bytes.specs.declared.entry.Entry.TheVariants as entry
use Rattle.entry_bytes.specs.Entries.{entry_bytes}
use Rattle.project_machine.specs.Entries.{document_piece, first_piece, pieces_of, rows_pieces, snapshot_pieces}
use Rattle.project_machine.specs.ProjectState.{Document}
use Rattle.project_book.proofs.StatePiecesProofs.RunLemmas.{whole_told}
use Rattle.project_book.proofs.state_pieces.whole.pieces.Goals as goal

pub returns-clause-pieces : goal.returns-clause-pieces
unfolding pieces_of
returns-clause-pieces c =
    let s = c.args.state.now.state in
    c.into_vec.ensures.same
    ∙ whole_told (first_piece s) entry.End (map document_piece s.documents) (flat_map (rows_pieces s) (enumerate_from 0 s.documents)) (flat_map (snapshot_pieces s) s.snapshots) c.new-run.result c.put_first.new.run c.put_documents.new.run c.put_rows.new.run c.put_snapshots.new.run c.put_end.new.run
    c.new-run.ensures c.in_ok-put_first.ensures (c.in_ok-put_documents.ensures ∙ ap (λ (ds : List Document). c.put_first.new.run ++ map entry_bytes (map document_piece ds)) c.document_list.ensures) c.in_ok-put_rows.ensures c.in_ok-put_snapshots.ensures c.in_ok-put_end.ensures
