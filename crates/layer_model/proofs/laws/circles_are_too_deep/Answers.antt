use Rattle.layer_model.proofs.Chains.{circles}
use Rattle.layer_model.proofs.laws.circles_are_too_deep.Goals as goal

pub returns : goal.returns
returns c layer circle each count number h = circles layer circle each count number h
