use Rattle.std.proofs.Common.{◌∙◌, ap}
use Rattle.std.specs.FinMap as finite
use Rattle.mark_base.specs.declared.ann_id.Kind.TheVariants as letter
use Rattle.layer_model.specs.declared.mark.Mark.TheVariants as marked
use Rattle.layer_rules.specs.LowestFlaw.{class_rule, lowest_from, lowest_of, mark_rule}
use Rattle.layer_rules.proofs.WalkLemmas.{single_is}
use Rattle.layer_rules.proofs.lowest_flaw.single_flaw.Goals as goal

pub returns : goal.returns
returns c =
    let conf = c.args.scene.now.conf.now in
    let characters = c.args.scene.now.characters in
    let layer = c.args.scene.now.layer.now in
    rw (c.lower_flaw-5.ensures, c.lower_flaw-4.ensures, c.lower_flaw-3.ensures, c.lower_flaw-marked.ensures, c.lower_flaw-2.ensures, c.lower_flaw-later.ensures, c.lower_flaw.ensures)
    (single_is conf characters layer c.keeps.ensures
    c.lowest-spans.result c.lowest-events.result c.lowest-relations.result c.lowest-attributes.result c.lowest-legacy.result c.lowest-normals.result c.lowest-notes.result c.lowest_class-classes.result
    (c.lowest-spans.ensures ∙ ap (λ m. lowest_of letter.Text (λ v. mark_rule conf characters layer (marked.Span v)) (finite.entries m)) c.spans.ensures)
    (c.lowest-events.ensures ∙ ap (λ m. lowest_of letter.Event (λ v. mark_rule conf characters layer (marked.Event v)) (finite.entries m)) c.events.ensures)
    (c.lowest-relations.ensures ∙ ap (λ m. lowest_of letter.Relation (λ v. mark_rule conf characters layer (marked.Relation v)) (finite.entries m)) c.relations.ensures)
    (c.lowest-attributes.ensures ∙ ap (λ m. lowest_of letter.Attribute (λ v. mark_rule conf characters layer (marked.Attribute v)) (finite.entries m)) c.attributes.ensures)
    (c.lowest-legacy.ensures ∙ ap (λ m. lowest_of letter.Legacy (λ v. mark_rule conf characters layer (marked.Attribute v)) (finite.entries m)) c.legacy.ensures)
    (c.lowest-normals.ensures ∙ ap (λ m. lowest_of letter.Normal (λ v. mark_rule conf characters layer (marked.Normal v)) (finite.entries m)) c.normals.ensures)
    (c.lowest-notes.ensures ∙ ap (λ m. lowest_of letter.Note (λ v. mark_rule conf characters layer (marked.Note v)) (finite.entries m)) c.notes.ensures)
    (c.lowest_class-classes.ensures ∙ ap (lowest_from 0 (class_rule conf layer)) c.classes.ensures))
