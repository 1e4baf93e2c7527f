use Rattle.ann_reader.proofs.UniqueLemmas.{one_layer}
use Rattle.ann_reader.proofs.laws.at_most_one_layer.Goals as goal

pub returns : goal.returns
returns c = one_layer
