use Rattle.project_machine.proofs.OwnLemmas.{step_other}
use Rattle.project_machine.proofs.laws.annotators_change_their_own_rows.Goals as goal

pub returns : goal.returns
returns c = λ s caller who asked happened place doc lay is other. step_other s caller who asked happened place doc lay is other
