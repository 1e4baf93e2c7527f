use Rattle.checkpoint.proofs.ToldLemmas.{are_pieces}
use Rattle.checkpoint.proofs.told_laws.checkpoints_are_pieces.Goals as goal

pub returns : goal.returns
returns c = λ entries s is. are_pieces c.unflawed_layers.ensures.unflawed entries s is
