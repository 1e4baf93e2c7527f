use Rattle.content_keys.proofs.BuiltLemmas.{coherent_built}
use Rattle.content_keys.proofs.laws.coherent_layers_are_built.Goals as goal

pub returns : goal.returns
returns c = coherent_built
