use Rattle.std.specs.List.{enumerate_from}
use Rattle.project_machine.specs.Entries.{rows_pieces}
use Rattle.project_book.proofs.StatePiecesProofs.RunLemmas.{ToldSoFar}
use Rattle.project_book.proofs.state_pieces.rows.put_rows.Given as goal

abbrev pub invariant-loop-doc : goal.invariant-loop-doc
invariant-loop-doc l = ToldSoFar (rows_pieces l.state.state) (enumerate_from 0 l.state.state.documents) l.fn.run l.run l.doc
