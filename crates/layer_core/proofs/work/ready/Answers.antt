use Rattle.layer_core.proofs.OutcomeLemmas.{good_well}
use Rattle.layer_core.proofs.work.ready.Goals as goal

pub of-requires : goal.of-requires
of-requires c = (c.requires.well_formed.0, good_well c.requires.well_formed.0 c.requires.well_formed.1.0 c.args.layer.now c.keeps.ensures c.requires.well_formed.1.1)
