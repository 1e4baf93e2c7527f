use Rattle.std.proofs.Common.{◌≡◌, Some, None, true, length, sym, ◌∙◌, ap, subst}
use Rattle.std.specs.Prelude.{if◌then◌else◌}
use Rattle.layer_model.specs.Layers.{has}
use Rattle.layer_core.specs.Changes.{changed_rule}
use Rattle.layer_core.specs.Commands.{lower_rule}
use Rattle.layer_core.specs.Indexes.{IsIndex}
use Rattle.layer_core.proofs.OutcomeLemmas.{good_well, has_put, index_but, judged_well, leads_back, put_back, put_differs}
use Rattle.layer_core.proofs.outcome.put.Goals.{then-is_new, else-is_new}
use Rattle.layer_core.proofs.outcome.put.Goals as goal

pub put_rule-requires-clause-was : goal.put_rule-requires-clause-was
put_rule-requires-clause-was c = (c.args.layer.now, (c.requires.well_formed, put_differs c.args.layer.now c.set.new.layer c.args.id c.args.mark c.in-Ok.ensures.done))

pub put_rule-requires-clause-there : goal.put_rule-requires-clause-there
put_rule-requires-clause-there c = subst (λ l. has l c.args.id ≡ true) (sym c.in-Ok.ensures.done) (has_put c.args.layer.now c.args.id.kind c.args.id.number c.args.mark c.requires.fits)

pub put_rule-requires-clause-index : goal.put_rule-requires-clause-index
put_rule-requires-clause-index c =
    index_but c.set.new.layer c.args.layer.now c.args.id c.args.index (put_differs c.args.layer.now c.set.new.layer c.args.id c.args.mark c.in-Ok.ensures.done) c.requires.index

pub taken_in-index-requires-clause-good : goal.taken_in-index-requires-clause-good
taken_in-index-requires-clause-good c = (
  c.args.conf.now,
  good_well c.args.conf.now (length c.args.doc.now) c.set.new.layer c.keeps.ensures
      (judged_well c.args.conf.now (length c.args.doc.now) c.set.new.layer c.args.id c.args.own (sym c.in-Ok-None.field-0-is ∙ c.in-Ok-None.ensures)),
)

pub taken_in-index-requires-clause-index : goal.taken_in-index-requires-clause-index
taken_in-index-requires-clause-index c =
    index_but c.set.new.layer c.args.layer.now c.args.id c.args.index (put_differs c.args.layer.now c.set.new.layer c.args.id c.args.mark c.in-Ok.ensures.done) c.requires.index

pub set_back-requires-clause-there : goal.set_back-requires-clause-there
set_back-requires-clause-there c = subst (λ l. has l c.args.id ≡ true) (sym c.in-Ok.ensures.done) (has_put c.args.layer.now c.args.id.kind c.args.id.number c.args.mark c.requires.fits)

pub set_back-requires-in-Err-put_rule-clause-there : goal.set_back-requires-in-Err-put_rule-clause-there
set_back-requires-in-Err-put_rule-clause-there c = subst (λ l. has l c.args.id ≡ true) (sym c.in-Ok.ensures.done) (has_put c.args.layer.now c.args.id.kind c.args.id.number c.args.mark c.requires.fits)

pub returns-after-is_new-clause-outcome : goal.returns-after-is_new-clause-outcome
returns-after-is_new-clause-outcome c =
    record {
      unbroken =
          sym (sym c.in-Ok-None.field-0-is ∙ c.in-Ok-None.ensures
          ∙ ap (λ l. lower_rule c.args.own (changed_rule c.args.conf.now (length c.args.doc.now) l c.args.id)) c.in-Ok.ensures.done);
      layer = c.in-Ok.ensures.done;
      made =
          elim c.if-is_new.branch [
            | then-is_new w ↦ w.made-is ∙ sym (ap (λ b. if b then Some c.args.id else None) w.if-is_new.true)
            | else-is_new w ↦ w.made-is ∙ sym (ap (λ b. if b then Some c.args.id else None) w.if-is_new.false)
          ];
      back =
          leads_back c.args.layer.now c.set.new.layer c.args.id c.in-Ok.before c.in-Ok.ensures.before
          (put_differs c.args.layer.now c.set.new.layer c.args.id c.args.mark c.in-Ok.ensures.done);
    }

pub returns-in-Ok-Some-clause-outcome : goal.returns-in-Ok-Some-clause-outcome
returns-in-Ok-Some-clause-outcome c = (
  sym (c.in-Ok-Some.ensures ∙ ap (λ l. lower_rule c.args.own (changed_rule c.args.conf.now (length c.args.doc.now) l c.args.id)) c.in-Ok.ensures.done)
      ∙ c.in-Ok-Some.field-0-is ∙ ap Some (sym c.in-Ok-Some.rule-is),
  put_back c.args.layer.now c.set.new.layer c.set_back.new.layer c.args.id c.args.mark c.in-Ok.before c.in-Ok.ensures.before c.in-Ok.ensures.done c.set_back.ensures,
)

pub returns-in-Ok-Some-clause-index : goal.returns-in-Ok-Some-clause-index
returns-in-Ok-Some-clause-index c =
    subst (λ l. IsIndex None l c.args.index)
    (sym (put_back c.args.layer.now c.set.new.layer c.set_back.new.layer c.args.id c.args.mark c.in-Ok.before c.in-Ok.ensures.before c.in-Ok.ensures.done c.set_back.ensures)) c.requires.index

pub returns-in-Err-put_rule-clause-outcome : goal.returns-in-Err-put_rule-clause-outcome
returns-in-Err-put_rule-clause-outcome c =
    put_back c.args.layer.now c.set.new.layer c.set_back-in-Err-put_rule.new.layer c.args.id c.args.mark c.in-Ok.before c.in-Ok.ensures.before c.in-Ok.ensures.done c.set_back-in-Err-put_rule.ensures

pub returns-in-Err-put_rule-clause-index : goal.returns-in-Err-put_rule-clause-index
returns-in-Err-put_rule-clause-index c =
    subst (λ l. IsIndex None l c.args.index)
    (sym (put_back c.args.layer.now c.set.new.layer c.set_back-in-Err-put_rule.new.layer c.args.id c.args.mark c.in-Ok.before c.in-Ok.ensures.before c.in-Ok.ensures.done c.set_back-in-Err-put_rule.ensures))
    c.requires.index
