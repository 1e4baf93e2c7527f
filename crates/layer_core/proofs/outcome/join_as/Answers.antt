use Rattle.std.proofs.Common.{None, length, refl, sym, ◌∙◌, ap, subst}
use Rattle.layer_model.specs.Classes.{joined}
use Rattle.layer_core.specs.Backs.{IsWayBack}
use Rattle.layer_core.specs.Commands.{lower_rule}
use Rattle.layer_core.specs.Indexes.{IsIndex}
use Rattle.layer_core.proofs.BackStepLemmas.{index_with, joined_rule}
use Rattle.layer_core.proofs.WorkLemmas.{few_classes}
use Rattle.layer_core.proofs.outcome.join_as.Goals as goal

pub returns-in-Some-clause-outcome : goal.returns-in-Some-clause-outcome
returns-in-Some-clause-outcome c = (
  sym (c.in-Some.ensures ∙ ap (lower_rule c.args.own) (c.requires.rule ∙ sym (joined_rule c.args.conf.now (length c.args.doc.now) c.args.layer.now c.args.kind c.args.members c.requires.well_formed))),
  refl,
)

pub join-requires-clause-few : goal.join-requires-clause-few
join-requires-clause-few c = few_classes c.args.conf.now (length c.args.doc.now) c.args.layer.now c.requires.well_formed

pub returns-in-Ok-clause-outcome : goal.returns-in-Ok-clause-outcome
returns-in-Ok-clause-outcome c =
    record {
      unbroken = sym (c.in-None.ensures ∙ ap (lower_rule c.args.own) (c.requires.rule ∙ sym (joined_rule c.args.conf.now (length c.args.doc.now) c.args.layer.now c.args.kind c.args.members c.requires.well_formed)));
      layer = c.in-Ok.ensures.ok;
      made = refl;
      back = subst (λ l. IsWayBack c.args.plan.back l c.args.layer.now) (sym c.in-Ok.ensures.ok) c.requires.back;
    }

pub returns-in-Ok-clause-index : goal.returns-in-Ok-clause-index
returns-in-Ok-clause-index c = λ index is.
    subst (λ l. IsIndex None l index) (sym c.in-Ok.ensures.ok) (index_with c.args.layer.now (joined c.args.kind c.args.members c.args.layer.now.classes) None index is)
