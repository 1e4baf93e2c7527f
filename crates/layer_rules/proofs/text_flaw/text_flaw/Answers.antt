use Rattle.std.proofs.Common.{sym, ◌∙◌, ap, refl}
use Rattle.std.specs.FinMap as finite
use Rattle.std.specs.Option.{option_or}
use Rattle.mark_base.specs.declared.ann_id.Kind.TheVariants as letter
use Rattle.layer_model.specs.declared.mark.Mark.TheVariants as marked
use Rattle.layer_rules.specs.LayerRules.{bad_text}
use Rattle.layer_rules.specs.LowestFlaw.{first_among}
use Rattle.layer_rules.proofs.PassLemmas.{only_texts}
use Rattle.layer_rules.proofs.text_flaw.text_flaw.Goals as goal

pub returns : goal.returns
returns c =
    let layer = c.args.layer.now in
    c.or.ensures
    ∙ ap (λ o. option_or o c.first-2.result) (c.first.ensures ∙ ap (λ m. first_among letter.Normal (λ _ v. bad_text (marked.Normal v)) (finite.entries m)) c.normals.ensures)
    ∙ ap (option_or (first_among letter.Normal (λ _ v. bad_text (marked.Normal v)) (finite.entries layer.normals)))
    (c.first-2.ensures ∙ ap (λ m. first_among letter.Note (λ _ v. bad_text (marked.Note v)) (finite.entries m)) c.notes.ensures)
    ∙ sym (only_texts (λ id. bad_text) layer c.keeps.ensures (λ id v. refl) (λ id v. refl) (λ id v. refl) (λ id v. refl))
