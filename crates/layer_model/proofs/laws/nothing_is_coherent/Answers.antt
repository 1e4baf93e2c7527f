use Rattle.layer_model.proofs.Coherence.{nothing_coheres}
use Rattle.layer_model.proofs.laws.nothing_is_coherent.Goals as goal

pub returns : goal.returns
returns c = nothing_coheres
