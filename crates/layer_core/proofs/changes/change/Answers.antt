use Rattle.std.proofs.Common.{subst}
use Rattle.std.proofs.lemmas.Result.{IfOk-weaker}
use Rattle.layer_core.specs.Changes.{AreNamers}
use Rattle.layer_core.proofs.changes.change.Goals as goal

pub returns-in-MoveSpan-clause-made : goal.returns-in-MoveSpan-clause-made
returns-in-MoveSpan-clause-made c = rw c.in-MoveSpan.is (IfOk-weaker c.move_span.result _ _ (λ made h. h c.args.conf.now) c.move_span.ensures.made)

pub returns-in-ClearAttribute : goal.returns-in-ClearAttribute
returns-in-ClearAttribute c =
    let named = subst (λ command. AreNamers c.args.layer.now command c.args.namers.now) c.in-ClearAttribute.is c.requires.named in
    record { made = rw c.in-ClearAttribute.is (c.clear.ensures.attribute c.args.conf.now c.args.layer.now named); fits = c.clear.ensures.fits c.args.layer.now named }

pub returns-in-SetNote-clause-made : goal.returns-in-SetNote-clause-made
returns-in-SetNote-clause-made c = rw c.in-SetNote.is (IfOk-weaker c.set_note.result _ _ (λ made h. h c.args.conf.now) c.set_note.ensures.made)

pub returns-in-SetReference-clause-made : goal.returns-in-SetReference-clause-made
returns-in-SetReference-clause-made c = rw c.in-SetReference.is (IfOk-weaker c.set_reference.result _ _ (λ made h. h c.args.conf.now) c.set_reference.ensures.made)

pub returns-in-Delete : goal.returns-in-Delete
returns-in-Delete c =
    let named = subst (λ command. AreNamers c.args.layer.now command c.args.namers.now) c.in-Delete.is c.requires.named in
    record { made = rw c.in-Delete.is (c.clear-in-Delete.ensures.any c.args.conf.now c.args.layer.now named); fits = c.clear-in-Delete.ensures.fits c.args.layer.now named }

pub returns-in-Purge-clause-made : goal.returns-in-Purge-clause-made
returns-in-Purge-clause-made c = rw c.in-Purge.is (IfOk-weaker c.purge.result _ _ (λ made h. h c.args.conf.now) c.purge.ensures.made)

pub returns-in-Load : goal.returns-in-Load
returns-in-Load c = record {
  made = rw c.in-Load.is (IfOk-weaker c.load.result _ _ (λ made h. h c.args.conf.now c.args.layer.now) c.load.ensures.made);
  fits = IfOk-weaker c.load.result _ _ (λ made h. h c.args.layer.now) c.load.ensures.fits;
}

pub returns-in-Unequate-clause-fits : goal.returns-in-Unequate-clause-fits
returns-in-Unequate-clause-fits c = c.unequate.ensures.fits c.args.layer.now
