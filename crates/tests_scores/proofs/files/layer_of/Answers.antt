use Rattle.tests_scores.proofs.files.layer_of.Goals as goal

pub returns : goal.returns
returns c = c.well_formed_layers_cohere.ensures _ _ _ c.keeps.ensures c.in_ok-layer.ensures.read.well_formed
