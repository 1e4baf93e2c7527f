use Rattle.std.proofs.Common.{◌≡◌, length, refl, subst}
use Rattle.std.specs.Prelude.{IfOk, OnOk}
use Rattle.layer_core.specs.Backs.{IsWayBack}
use Rattle.layer_core.specs.MadeLayers.{gone}
use Rattle.layer_core.proofs.OutcomeLemmas.{gone_rule, good_well, none_stands, own_stands}
use Rattle.layer_core.proofs.outcome.take.Goals as goal

pub returns-in-Some-clause-outcome : goal.returns-in-Some-clause-outcome
returns-in-Some-clause-outcome c = (
  own_stands c.args.own _ c.in-Some.rule c.in-Some.is (gone_rule c.args.conf.now (length c.args.doc.now) c.args.layer.now c.args.id c.keeps.ensures c.requires.well_formed c.requires.unnamed),
  refl,
)

pub take_unnamed-back-requires-clause-good : goal.take_unnamed-back-requires-clause-good
take_unnamed-back-requires-clause-good c = (c.args.conf.now, good_well c.args.conf.now (length c.args.doc.now) c.args.layer.now c.keeps.ensures c.requires.well_formed)

pub returns-in-Ok-clause-outcome : goal.returns-in-Ok-clause-outcome
returns-in-Ok-clause-outcome c =
    record {
      unbroken = none_stands c.args.own _ c.in-None.is (gone_rule c.args.conf.now (length c.args.doc.now) c.args.layer.now c.args.id c.keeps.ensures c.requires.well_formed c.requires.unnamed);
      layer = subst (λ r. OnOk r (c.take_unnamed-back.new.layer ≡ gone c.args.layer.now c.args.id)) c.in-Ok.is c.take_unnamed-back.ensures.done;
      made = refl;
      back = subst (λ r. IfOk r (λ back. IsWayBack back c.take_unnamed-back.new.layer c.args.layer.now)) c.in-Ok.is c.take_unnamed-back.ensures.back;
    }
