use Rattle.layer_core.proofs.CommandLemmas.{commands_keep}
use Rattle.layer_core.proofs.command_laws.commands_keep_layers.Goals as goal

pub returns : goal.returns
returns c = commands_keep
