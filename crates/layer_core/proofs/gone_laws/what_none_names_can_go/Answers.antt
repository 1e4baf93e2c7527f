use Rattle.layer_core.proofs.GoneFlawLemmas.{gone_unflawed}
use Rattle.layer_core.proofs.gone_laws.what_none_names_can_go.Goals as goal

pub returns : goal.returns
returns c = gone_unflawed
