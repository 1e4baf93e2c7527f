use Rattle.checkpoint.proofs.StandLemmas.{checkpoint_sound}
use Rattle.checkpoint.proofs.laws.checkpoints_are_sound.Goals as goal

pub returns : goal.returns
returns c = λ entries s is. checkpoint_sound c.unflawed_layers.ensures.unflawed entries s is
