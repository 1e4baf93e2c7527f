use Rattle.std.proofs.Common.{◌∙◌, ap, length, refl}
use Rattle.layer_model.specs.Classes.{shares}
use Rattle.layer_core.proofs.BackStepLemmas.{one_too_many_is, sharing_few}
use Rattle.layer_core.proofs.joined_classes.one_too_many.Goals as goal

pub too_many_rule-requires : goal.too_many_rule-requires
too_many_rule-requires c =
    sharing_few (shares c.args.kind.n c.args.members.now) c.args.layer.now.classes c.args.sharing.now (length c.classes-classes.result.now) (length c.args.sharing.now) (ap length c.classes-classes.ensures) refl c.requires

pub returns : goal.returns
returns c =
    c.too_many_rule.ensures
    ∙ one_too_many_is c.args.kind c.args.members.now c.args.layer.now.classes c.args.sharing.now (length c.classes-classes.result.now) (length c.args.sharing.now) (ap length c.classes-classes.ensures) refl c.requires
