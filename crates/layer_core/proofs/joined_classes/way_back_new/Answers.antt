use Rattle.layer_core.proofs.BackStepLemmas.{leads_to_new}
use Rattle.layer_core.proofs.joined_classes.way_back_new.Goals as goal

pub returns : goal.returns
returns c =
    leads_to_new c.args.layer.now c.args.kind c.args.members.now c.in_ok-out.out.items c.new.result.items c.back_of.result c.requires.well_formed c.keeps.ensures c.requires.some c.requires.none
    c.in_ok-out.ensures.items c.new.ensures.items c.back_of.ensures
