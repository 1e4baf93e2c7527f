use Rattle.curator_decisions.proofs.BreaksThree.{decisions_break, taking_back_breaks, verdicts_break}
use Rattle.curator_decisions.proofs.curated_laws.refusals_break_three.Goals as goal

pub returns-clause-decisions : goal.returns-clause-decisions
returns-clause-decisions c = decisions_break c.well_formed_layers_cohere.ensures

pub returns-clause-decide : goal.returns-clause-decide
returns-clause-decide c = verdicts_break c.well_formed_layers_cohere.ensures

pub returns-clause-undecide : goal.returns-clause-undecide
returns-clause-undecide c = taking_back_breaks c.well_formed_layers_cohere.ensures
