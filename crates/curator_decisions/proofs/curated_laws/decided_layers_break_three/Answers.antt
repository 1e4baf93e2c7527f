use Rattle.curator_decisions.proofs.BreaksThree.{break_three, first_of, three_suffice}
use Rattle.curator_decisions.proofs.curated_laws.decided_layers_break_three.Goals as goal

pub returns-clause-places : goal.returns-clause-places
returns-clause-places c = break_three c.well_formed_layers_cohere.ensures

pub returns-clause-first : goal.returns-clause-first
returns-clause-first c = first_of c.well_formed_layers_cohere.ensures

pub returns-clause-suffice : goal.returns-clause-suffice
returns-clause-suffice c = three_suffice c.well_formed_layers_cohere.ensures
