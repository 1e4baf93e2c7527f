use Rattle.ann_reader.proofs.FaultlessLemmas.{faultless}
use Rattle.ann_reader.proofs.SameLayer.{same_layer}
use Rattle.ann_reader.proofs.laws.files_of_a_layer.Goals as goal

pub returns : goal.returns
returns c = record { faultless = faultless c.well_formed_layers_cohere.ensures; said = same_layer c.well_formed_layers_cohere.ensures }
