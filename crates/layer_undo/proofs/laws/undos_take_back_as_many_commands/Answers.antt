use Rattle.layer_undo.proofs.LawLemmas.{redos, undos}
use Rattle.layer_undo.proofs.laws.undos_take_back_as_many_commands.Goals as goal

pub returns-clause-undone : goal.returns-clause-undone
returns-clause-undone c = undos

pub returns-clause-redone : goal.returns-clause-redone
returns-clause-redone c = redos
