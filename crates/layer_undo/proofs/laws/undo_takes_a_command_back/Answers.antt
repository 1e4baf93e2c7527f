use Rattle.layer_undo.proofs.LawLemmas.{layer_before, undo_of_perform}
use Rattle.layer_undo.proofs.laws.undo_takes_a_command_back.Goals as goal

pub returns-clause-undone : goal.returns-clause-undone
returns-clause-undone c = undo_of_perform

pub returns-clause-layer : goal.returns-clause-layer
returns-clause-layer c = layer_before
