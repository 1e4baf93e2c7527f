use Rattle.curator_decisions.proofs.UndecidedObeys.{undecided_obey}
use Rattle.curator_decisions.proofs.laws.undecided_layers_obey.Goals as goal

pub returns : goal.returns
returns c = undecided_obey c.well_formed_layers_cohere.ensures
