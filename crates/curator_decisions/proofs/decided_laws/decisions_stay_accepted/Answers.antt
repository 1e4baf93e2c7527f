use Rattle.curator_decisions.proofs.DecidedSteps.{with_stays, without_stays}
use Rattle.curator_decisions.proofs.decided_laws.decisions_stay_accepted.Goals as goal

pub returns-clause-decide : goal.returns-clause-decide
returns-clause-decide c = with_stays

pub returns-clause-undecide : goal.returns-clause-undecide
returns-clause-undecide c = without_stays
