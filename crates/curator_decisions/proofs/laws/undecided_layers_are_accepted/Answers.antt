use Rattle.curator_decisions.proofs.UndecidedFaults.{undecided_accepted}
use Rattle.curator_decisions.proofs.laws.undecided_layers_are_accepted.Goals as goal

pub returns : goal.returns
returns c = undecided_accepted c.well_formed_layers_cohere.ensures c.unflawed_layers.ensures.well_formed
