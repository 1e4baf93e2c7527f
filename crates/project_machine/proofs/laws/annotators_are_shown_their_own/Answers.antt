use Rattle.project_machine.proofs.ShownLemmas.{private}
use Rattle.project_machine.proofs.laws.annotators_are_shown_their_own.Goals as goal

pub returns : goal.returns
returns c = private
