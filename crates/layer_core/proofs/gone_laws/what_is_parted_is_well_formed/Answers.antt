use Rattle.layer_core.proofs.PartFlawLemmas.{parted_unflawed}
use Rattle.layer_core.proofs.gone_laws.what_is_parted_is_well_formed.Goals as goal

pub returns : goal.returns
returns c = parted_unflawed
