use Rattle.layer_model.proofs.Free.{free}
use Rattle.layer_model.proofs.laws.numbers_above_are_free.Goals as goal

pub returns : goal.returns
returns c layer kind number above = free layer kind number above
