use Rattle.curator_decisions.proofs.DecidedVerdicts.{is_set, is_taken, others_set, others_stay}
use Rattle.curator_decisions.proofs.decided_laws.verdicts_are_set.Goals as goal

pub returns-clause-set : goal.returns-clause-set
returns-clause-set c = is_set

pub returns-clause-others_set : goal.returns-clause-others_set
returns-clause-others_set c = others_set

pub returns-clause-taken_back : goal.returns-clause-taken_back
returns-clause-taken_back c = is_taken

pub returns-clause-others : goal.returns-clause-others
returns-clause-others c = others_stay
