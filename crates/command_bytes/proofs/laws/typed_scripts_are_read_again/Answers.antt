use Rattle.command_bytes.proofs.ValueLemmas.{typed_script}
use Rattle.command_bytes.proofs.laws.typed_scripts_are_read_again.Goals as goal

pub returns : goal.returns
returns c = typed_script
