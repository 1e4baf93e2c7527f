use Rattle.std.proofs.Common.{◌∙◌, ap}
use Rattle.std.specs.List.{flat_map}
use Rattle.layer_model.specs.Classes.{ascending}
use Rattle.layer_core.proofs.GoneLemmas.{members_held}
use Rattle.layer_core.proofs.removal.held_ids.Goals as goal

pub returns : goal.returns
returns c =
    members_held c.args.layer.now.classes c.in_ok-members.members.items c.in_ok-held.held
    (c.in_ok-members.ensures ∙ ap (flat_map (λ class. class.members)) c.classes.ensures) (c.in_ok-held.ensures ∙ ap ascending c.deref.ensures.value)
