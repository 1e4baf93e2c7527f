use Rattle.project_machine.specs.Entries.{held_piece}
use Rattle.project_book.proofs.StatePiecesProofs.RunLemmas.{ToldSoFar, one_each}
use Rattle.project_book.proofs.state_pieces.snapshots.put_held.Given as goal

abbrev pub invariant-loop-place : goal.invariant-loop-place
invariant-loop-place l = ToldSoFar (one_each (held_piece l.state.state l.snapshot)) l.snapshot.holders l.fn.run l.run l.place
