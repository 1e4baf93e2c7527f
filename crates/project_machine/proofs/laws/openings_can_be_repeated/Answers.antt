use Rattle.project_machine.proofs.OpenLemmas.{opened_again, opened_left}
use Rattle.project_machine.proofs.laws.openings_can_be_repeated.Goals as goal

pub returns-clause-left : goal.returns-clause-left
returns-clause-left c = opened_left

pub returns-clause-again : goal.returns-clause-again
returns-clause-again c = opened_again
