use Rattle.std.proofs.Common.{◌≡◌, sym, ◌∙◌, refl, None}
use Rattle.mark_base.specs.declared.ann_id.AnnId.{AnnId}
use Rattle.layer_model.specs.declared.event.Event.{Event}
use Rattle.layer_model.specs.declared.mark.Mark.{Mark}
use Rattle.layer_model.specs.declared.mark.Mark.TheVariants as marked
use Rattle.layer_model.specs.Annotations.{Annotations}
use Rattle.layer_rules.specs.LayerRules.{too_deep}
use Rattle.layer_rules.proofs.PassLemmas.{only_events}
use Rattle.layer_rules.proofs.event_chains.deep_flaw.Goals as goal

no_other : (layer : Annotations) (id : AnnId) (mark : Mark) → ((event : Event) → mark ≡ marked.Event event → ⊥) → too_deep layer id mark ≡ None
no_other layer id (marked.Event event) h = absurd (h event refl)
no_other layer id (marked.Span v) h = refl
no_other layer id (marked.Relation v) h = refl
no_other layer id (marked.Attribute v) h = refl
no_other layer id (marked.Normal v) h = refl
no_other layer id (marked.Note v) h = refl

pub returns : goal.returns
returns c = c.first_deep.ensures ∙ sym (only_events (too_deep c.args.layer.now) c.args.layer.now c.keeps.ensures (no_other c.args.layer.now))
