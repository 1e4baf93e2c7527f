use Rattle.project_machine.specs.Entries.{snapshot_pieces}
use Rattle.project_book.proofs.StatePiecesProofs.RunLemmas.{ToldSoFar}
use Rattle.project_book.proofs.state_pieces.snapshots.put_snapshots.Given as goal

abbrev pub invariant-loop-snapshot : goal.invariant-loop-snapshot
invariant-loop-snapshot l = ToldSoFar (snapshot_pieces l.state.state) l.state.state.snapshots l.fn.run l.run l.snapshot-index
