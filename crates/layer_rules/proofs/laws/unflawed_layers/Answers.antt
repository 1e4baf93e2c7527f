use Rattle.layer_rules.proofs.LawLemmas.{unflawed_is_well_formed, well_formed_is_unflawed}
use Rattle.layer_rules.proofs.laws.unflawed_layers.Goals as goal

pub returns-clause-unflawed : goal.returns-clause-unflawed
returns-clause-unflawed c = unflawed_is_well_formed

pub returns-clause-well_formed : goal.returns-clause-well_formed
returns-clause-well_formed c = well_formed_is_unflawed
