use Rattle.project_machine.proofs.HistoryLemmas.{last_low, begin_more, last_upto, legal_some, upto_last}
use Rattle.project_machine.proofs.laws.places_stand.Goals as goal

pub returns-clause-begins : goal.returns-clause-begins
returns-clause-begins c = λ log more legal. begin_more log more (legal_some log legal)

pub returns-clause-goes_on : goal.returns-clause-goes_on
returns-clause-goes_on c = λ log more legal. upto_last log more (legal_some log legal)

pub returns-clause-ends : goal.returns-clause-ends
returns-clause-ends c = last_upto

pub returns-clause-below : goal.returns-clause-below
returns-clause-below c = last_low
