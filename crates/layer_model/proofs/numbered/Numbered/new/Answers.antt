use Rattle.layer_model.proofs.Numbers.{NumbersFit-empty}
use Rattle.layer_model.proofs.numbered.Numbered.new.Goals as goal

pub invariant_of-result : goal.invariant_of-result
invariant_of-result g c = rw (c.new.ensures.empty) (NumbersFit-empty _)
