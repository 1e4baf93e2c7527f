use Rattle.project_state.proofs.StoredLemmas.{act_keeps_parts}
use Rattle.project_state.proofs.state.BookState.act.Goals as goal

pub invariant_of-self : goal.invariant_of-self
invariant_of-self c = act_keeps_parts _ _ _ _ _ _ _ _ _ _ _ _ c.self.invariant c.act_on.ensures
