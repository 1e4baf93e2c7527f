use Rattle.project_state.proofs.RestoringLemmas.{NumberedSoFar}
use Rattle.project_state.proofs.restoring.numbered.Given as goal

abbrev pub invariant-loop-number : goal.invariant-loop-number
invariant-loop-number l = NumberedSoFar l.documents l.number l.numbers.entries
