use Rattle.std.proofs.Common.{None, length, refl, sym, subst}
use Rattle.layer_model.specs.Classes.{parted}
use Rattle.layer_core.specs.Indexes.{IsIndex}
use Rattle.layer_core.proofs.BackStepLemmas.{index_with, parted_rule}
use Rattle.layer_core.proofs.OutcomeLemmas.{none_stands, own_stands}
use Rattle.layer_core.proofs.outcome.part.Goals as goal

pub returns-in-Some-clause-outcome : goal.returns-in-Some-clause-outcome
returns-in-Some-clause-outcome c = (
  own_stands c.args.own _ c.in-Some.rule c.in-Some.is (parted_rule c.args.conf.now (length c.args.doc.now) c.args.layer.now c.args.kind.n c.args.id c.requires),
  refl,
)

pub returns-in-None-clause-outcome : goal.returns-in-None-clause-outcome
returns-in-None-clause-outcome c =
    record {
      unbroken = none_stands c.args.own _ c.in-None.is (parted_rule c.args.conf.now (length c.args.doc.now) c.args.layer.now c.args.kind.n c.args.id c.requires);
      layer = c.part_told.ensures.layer;
      made = refl;
      back = c.part_told.ensures.back;
    }

pub returns-in-None-clause-index : goal.returns-in-None-clause-index
returns-in-None-clause-index c = λ index is.
    subst (λ l. IsIndex None l index) (sym c.part_told.ensures.layer) (index_with c.args.layer.now (parted c.args.kind.n c.args.id c.args.layer.now.classes) None index is)
