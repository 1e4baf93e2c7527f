use Rattle.std.specs.List.{zip}
use Rattle.project_machine.specs.Entries.{row_pieces}
use Rattle.project_machine.specs.ProjectState.{document}
use Rattle.project_book.proofs.StatePiecesProofs.RunLemmas.{ToldSoFar}
use Rattle.project_book.proofs.state_pieces.rows.put_rows_of.Given as goal

abbrev pub invariant-loop-rater : goal.invariant-loop-rater
invariant-loop-rater l = ToldSoFar (row_pieces l.state.state l.fn.doc) (zip l.names (document l.state.state l.fn.doc).rows) l.fn.run l.run l.rater
