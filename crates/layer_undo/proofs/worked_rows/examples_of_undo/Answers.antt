use Rattle.std.proofs.Common.{refl}
use Rattle.layer_undo.proofs.worked_rows.examples_of_undo.Goals as goal

pub returns-clause-nothing_done : goal.returns-clause-nothing_done
returns-clause-nothing_done c = λ desk. refl

pub returns-clause-last : goal.returns-clause-last
returns-clause-last c = λ desk a b. refl

pub returns-clause-first : goal.returns-clause-first
returns-clause-first c = λ desk a b. refl

pub returns-clause-nothing_undone : goal.returns-clause-nothing_undone
returns-clause-nothing_undone c = λ desk. refl

pub returns-clause-redone : goal.returns-clause-redone
returns-clause-redone c = λ desk a b. refl
