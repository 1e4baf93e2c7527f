use Rattle.project_state.proofs.RestoringLemmas.{not_kept}
use Rattle.project_state.proofs.state.BookState.restored.Goals as goal

pub returns-in_default-2-clause-refused : goal.returns-in_default-2-clause-refused
returns-in_default-2-clause-refused c = not_kept c.args.documents.items c.as_slice-2.result.now c.as_slice-2.ensures.value (rw c.in_default-2.is at c.in_ok-numbers.ensures.refused)
