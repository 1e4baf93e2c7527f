use Rattle.command_bytes.proofs.AcceptedLemmas.{accepted}
use Rattle.command_bytes.proofs.laws.accepted_scripts_can_be_written.Goals as goal

pub returns : goal.returns
returns c = accepted c.unflawed_layers.ensures.unflawed
