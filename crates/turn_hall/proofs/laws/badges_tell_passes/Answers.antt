use Rattle.turn_hall.proofs.TellLemmas.{same_pass}
use Rattle.turn_hall.proofs.laws.badges_tell_passes.Goals as goal

pub returns : goal.returns
returns g old new e = same_pass old new e
