use Rattle.std.proofs.Common.{◌∙◌, ap}
use Rattle.std.proofs.Common.{◌||◌, ◌&&◌, not}
use Rattle.std.specs.List.{flat_map}
use Rattle.layer_model.specs.Classes.{has_rank}
use Rattle.layer_core.proofs.BackStepLemmas.{leads_to_shared}
use Rattle.layer_core.proofs.joined_classes.way_back_shared.Goals as goal

pub returns : goal.returns
returns c =
    leads_to_shared c.args.layer.now c.args.kind c.args.members.now c.in_ok-out.out.items c.args.again.items c.args.kept.now c.back_of.result c.requires.well_formed c.keeps.ensures c.requires.some c.requires.sharing
    (λ q. c.in_ok-out.ensures q ∙ ap (λ cs. (has_rank q c.args.members.now || has_rank q (flat_map (λ class. class.members) cs)) && not (has_rank q c.args.kept.now.members)) c.deref.ensures.value) c.back_of.ensures
