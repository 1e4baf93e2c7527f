use Rattle.std.proofs.Common.{◌-◌, ◌∙◌, ap, slice_get}
use Rattle.std.specs.FinMap as finite
use Rattle.mark_base.specs.declared.ann_id.Kind.TheVariants as letter
use Rattle.layer_rules.specs.LayerRules.{classes_full}
use Rattle.layer_rules.specs.LowestFlaw.{first_from, full_at}
use Rattle.layer_rules.proofs.FullLemmas.{full_found}
use Rattle.layer_rules.proofs.layer_full.full_flaw.Goals as goal

pub returns : goal.returns
returns c =
    rw (c.or-5.ensures, c.or-4.ensures, c.or-3.ensures, c.or-marked.ensures, c.or-2.ensures, c.or-later.ensures, c.or.ensures)
    (full_found c.args.layer.now c.keeps.ensures c.full-spans.result c.full-events.result c.full-relations.result c.full-attributes.result c.full-legacy.result c.full-normals.result c.full-notes.result c.full_classes.result
    c.saturating_sub-left.result
    (c.full-spans.ensures ∙ ap (λ m. full_at letter.Text letter.Text (slice_get (finite.keys m) 10000)) c.spans.ensures)
    (c.full-events.ensures ∙ ap (λ m. full_at letter.Event letter.Event (slice_get (finite.keys m) 10000)) c.events.ensures)
    (c.full-relations.ensures ∙ ap (λ m. full_at letter.Relation letter.Relation (slice_get (finite.keys m) 10000)) c.relations.ensures)
    (c.full-attributes.ensures ∙ ap (λ m. full_at letter.Attribute letter.Attribute (slice_get (finite.keys m) 10000)) c.attributes.ensures)
    (c.full-legacy.ensures ∙ ap (λ m. full_at letter.Legacy letter.Attribute (slice_get (finite.keys m) c.saturating_sub-left.result)) c.legacy.ensures)
    (c.full-normals.ensures ∙ ap (λ m. full_at letter.Normal letter.Normal (slice_get (finite.keys m) 10000)) c.normals.ensures)
    (c.full-notes.ensures ∙ ap (λ m. full_at letter.Note letter.Note (slice_get (finite.keys m) 10000)) c.notes.ensures)
    (c.full_classes.ensures ∙ ap (first_from 0 classes_full) c.classes.ensures)
    (c.saturating_sub-left.ensures ∙ ap (λ k. 10000 - k) c.count.ensures))
