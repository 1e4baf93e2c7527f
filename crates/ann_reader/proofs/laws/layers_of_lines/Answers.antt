use Rattle.ann_reader.proofs.WholeLayer.{whole_layer}
use Rattle.ann_reader.proofs.laws.layers_of_lines.Goals as goal

pub returns : goal.returns
returns c = whole_layer
