use Rattle.layer_rules.proofs.CoherenceLemmas.{coheres}
use Rattle.layer_rules.proofs.laws.well_formed_layers_cohere.Goals as goal

pub returns : goal.returns
returns c = coheres
