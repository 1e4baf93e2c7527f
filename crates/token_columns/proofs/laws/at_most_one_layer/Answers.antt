use Rattle.token_columns.proofs.BackLemmas.{one_layer}
use Rattle.token_columns.proofs.laws.at_most_one_layer.Goals as goal

pub returns : goal.returns
returns c = one_layer
