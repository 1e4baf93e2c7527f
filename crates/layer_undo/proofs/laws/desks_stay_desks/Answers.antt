use Rattle.layer_undo.proofs.LawLemmas.{calls_stay, layer_made, layer_well_formed}
use Rattle.layer_undo.proofs.laws.desks_stay_desks.Goals as goal

pub returns-clause-desk : goal.returns-clause-desk
returns-clause-desk c = λ desk calls is. calls_stay c.commands_keep_layers.ensures desk calls is

pub returns-clause-replayed : goal.returns-clause-replayed
returns-clause-replayed c = layer_made

pub returns-clause-well_formed : goal.returns-clause-well_formed
returns-clause-well_formed c = layer_well_formed c.commands_keep_layers.ensures
