use Rattle.layer_core.proofs.OutcomeLemmas.{good_well}
use Rattle.layer_core.proofs.ways_back.kept_in.Goals as goal

pub taken_in-requires-clause-good : goal.taken_in-requires-clause-good
taken_in-requires-clause-good c = (c.requires.well_formed.0, good_well c.requires.well_formed.0 c.requires.well_formed.1.0 c.args.layer.now c.keeps.ensures c.requires.well_formed.1.1)
