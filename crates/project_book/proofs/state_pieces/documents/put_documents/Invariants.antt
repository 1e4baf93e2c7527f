use Rattle.project_machine.specs.Entries.{document_piece}
use Rattle.project_book.proofs.StatePiecesProofs.RunLemmas.{ToldSoFar, one_each}
use Rattle.project_book.proofs.state_pieces.documents.put_documents.Given as goal

abbrev pub invariant-loop-document : goal.invariant-loop-document
invariant-loop-document l = ToldSoFar (one_each document_piece) l.documents l.fn.run l.run l.document-index
