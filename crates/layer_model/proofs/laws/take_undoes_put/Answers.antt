use Rattle.layer_model.proofs.Undo.{taken_again}
use Rattle.layer_model.proofs.laws.take_undoes_put.Goals as goal

pub returns : goal.returns
returns c layer id mark fits new = taken_again layer id.kind id.number mark fits new
