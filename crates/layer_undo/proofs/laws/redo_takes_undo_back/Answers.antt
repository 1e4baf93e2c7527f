use Rattle.layer_undo.proofs.LawLemmas.{redo_of_undo, undo_of_redo}
use Rattle.layer_undo.proofs.laws.redo_takes_undo_back.Goals as goal

pub returns-clause-redone : goal.returns-clause-redone
returns-clause-redone c = redo_of_undo

pub returns-clause-undone : goal.returns-clause-undone
returns-clause-undone c = undo_of_redo
