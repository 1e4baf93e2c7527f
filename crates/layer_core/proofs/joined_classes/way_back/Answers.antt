use Rattle.std.proofs.Common.{◌<◌, filter, length, subst}
use Rattle.layer_model.specs.Classes.{shares}
use Rattle.layer_core.proofs.BackStepLemmas.{one_of}
use Rattle.layer_core.proofs.joined_classes.way_back.Goals as goal

pub way_back_shared-requires-clause-sharing : goal.way_back_shared-requires-clause-sharing
way_back_shared-requires-clause-sharing c =
    one_of (filter (shares c.args.kind.n c.args.members.now) c.args.layer.now.classes) c.args.sharing.items c.remove-kept.new.self.items c.greatest_place-greatest.result c.remove-kept.result c.requires.sharing
    (subst (λ xs. c.greatest_place-greatest.result < length xs) c.deref.ensures.value c.greatest_place-greatest.ensures) c.remove-kept.ensures.value c.remove-kept.ensures.items
