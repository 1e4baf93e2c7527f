use Rattle.std.proofs.Common.{refl}
use Rattle.layer_undo.proofs.worked_rows.examples_of_full_desks.Goals as goal

pub returns-clause-full : goal.returns-clause-full
returns-clause-full c = λ desk a b. refl

pub returns-clause-too_many : goal.returns-clause-too_many
returns-clause-too_many c = λ conf characters base a. refl
