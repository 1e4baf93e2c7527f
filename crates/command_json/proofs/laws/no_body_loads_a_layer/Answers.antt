use Rattle.command_json.proofs.LoadLemmas.{no_body}
use Rattle.command_json.proofs.laws.no_body_loads_a_layer.Goals as goal

pub returns : goal.returns
returns c = no_body
