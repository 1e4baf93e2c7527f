use Rattle.layer_core.proofs.JoinFlawLemmas.{joined_least}
use Rattle.layer_core.proofs.joined_laws.joining_breaks_the_class_made.Goals as goal

pub returns : goal.returns
returns c = joined_least
