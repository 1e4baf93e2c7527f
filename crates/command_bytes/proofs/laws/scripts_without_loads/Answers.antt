use Rattle.command_bytes.proofs.ScriptLemmas.{script_same}
use Rattle.command_bytes.proofs.laws.scripts_without_loads.Goals as goal

pub returns : goal.returns
returns c = λ a b text other commands h. script_same commands h a b text other
