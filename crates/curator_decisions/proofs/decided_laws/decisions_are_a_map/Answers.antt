use Rattle.curator_decisions.proofs.DecidedVerdicts.{known, same_layer}
use Rattle.curator_decisions.proofs.decided_laws.decisions_are_a_map.Goals as goal

pub returns-clause-list : goal.returns-clause-list
returns-clause-list c = known

pub returns-clause-layer : goal.returns-clause-layer
returns-clause-layer c = same_layer
