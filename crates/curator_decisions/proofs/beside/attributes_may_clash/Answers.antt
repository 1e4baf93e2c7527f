use Rattle.std.proofs.Common.{◌≡◌, ◌∙◌, ◌==◌, ◌&&◌, eqb, ap, refl, sym, option_map, slice_get, Some, None}
use Rattle.std.specs.Arc.{arc_value}
use Rattle.std.proofs.lemmas.Option.{same_Some}
use Rattle.layer_model.specs.Annotations.{Annotations}
use Rattle.unanimous_merge.specs.Rows.{held_at}
use Rattle.layer_model.specs.Layers.{attribute_at}
use Rattle.content_keys.specs.LayerContents.{content_of}
use Rattle.curator_decisions.proofs.BesideLemmas.{attributes_two, clash_is, rivals_off}
use Rattle.curator_decisions.proofs.CuratedParts.{Row}
use Rattle.curator_decisions.proofs.beside.attributes_may_clash.Goals as goal

pub returns-in_default-attribute : goal.returns-in_default-attribute
returns-in_default-attribute c none =
    let rows = c.args.snapshot.now in
    let one = c.args.one in
    let later = c.args.later in
    let l : Annotations = arc_value c.in-Some.layer.now in
    let m : Annotations = arc_value c.in-Some-layer.others.now in
    let e : Some l ≡ option_map (λ (row : Row). row.1) (slice_get rows one.item.holder) = c.in-Some.ensures ∙ ap (λ i. option_map (λ (row : Row). row.1) (slice_get rows i)) c.from.ensures in
    let f : Some m ≡ option_map (λ (row : Row). row.1) (slice_get rows later.item.holder) = c.in-Some-layer.ensures ∙ ap (λ i. option_map (λ (row : Row). row.1) (slice_get rows i)) c.from-2.ensures in
    clash_is c.args.conf.now rows (held_at c.args.comparison.now.merged.table one) (held_at c.args.comparison.now.merged.table later) (Some l) (Some m) e f
    ∙ attributes_two c.args.conf.now l m one.item.id later.item.id c.requires.other None (attribute_at m later.item.id) (c.in_default-attribute.ensures ∙ ap (λ (z : Annotations). attribute_at z one.item.id) c.deref.ensures) refl (λ x y p q. cc)

pub returns-in_default-attribute-2 : goal.returns-in_default-attribute-2
returns-in_default-attribute-2 c none =
    let rows = c.args.snapshot.now in
    let one = c.args.one in
    let later = c.args.later in
    let l : Annotations = arc_value c.in-Some.layer.now in
    let m : Annotations = arc_value c.in-Some-layer.others.now in
    let e : Some l ≡ option_map (λ (row : Row). row.1) (slice_get rows one.item.holder) = c.in-Some.ensures ∙ ap (λ i. option_map (λ (row : Row). row.1) (slice_get rows i)) c.from.ensures in
    let f : Some m ≡ option_map (λ (row : Row). row.1) (slice_get rows later.item.holder) = c.in-Some-layer.ensures ∙ ap (λ i. option_map (λ (row : Row). row.1) (slice_get rows i)) c.from-2.ensures in
    clash_is c.args.conf.now rows (held_at c.args.comparison.now.merged.table one) (held_at c.args.comparison.now.merged.table later) (Some l) (Some m) e f
    ∙ attributes_two c.args.conf.now l m one.item.id later.item.id c.requires.other (attribute_at l one.item.id) None refl (c.in_default-attribute-2.ensures ∙ ap (λ (z : Annotations). attribute_at z later.item.id) c.deref-2.ensures) (λ x y p q. cc)

pub returns : goal.returns
returns c off =
    let rows = c.args.snapshot.now in
    let one = c.args.one in
    let later = c.args.later in
    let l : Annotations = arc_value c.in-Some.layer.now in
    let m : Annotations = arc_value c.in-Some-layer.others.now in
    let e : Some l ≡ option_map (λ (row : Row). row.1) (slice_get rows one.item.holder) = c.in-Some.ensures ∙ ap (λ i. option_map (λ (row : Row). row.1) (slice_get rows i)) c.from.ensures in
    let f : Some m ≡ option_map (λ (row : Row). row.1) (slice_get rows later.item.holder) = c.in-Some-layer.ensures ∙ ap (λ i. option_map (λ (row : Row). row.1) (slice_get rows i)) c.from-2.ensures in
    clash_is c.args.conf.now rows (held_at c.args.comparison.now.merged.table one) (held_at c.args.comparison.now.merged.table later) (Some l) (Some m) e f
    ∙ attributes_two c.args.conf.now l m one.item.id later.item.id c.requires.other (Some c.in-Some-attribute.attribute.now) (Some c.in-Some-attribute-2.other.now) (c.in-Some-attribute.ensures ∙ ap (λ (z : Annotations). attribute_at z one.item.id) c.deref.ensures) (c.in-Some-attribute-2.ensures ∙ ap (λ (z : Annotations). attribute_at z later.item.id) c.deref-2.ensures)
    (λ x y p q. (λ i. (sym (same_Some _ _ p) i).kind.n == (sym (same_Some _ _ q) i).kind.n && eqb (content_of l (sym (same_Some _ _ p) i).target) (content_of m (sym (same_Some _ _ q) i).target)) ∙ rivals_off rows c.args.comparison.now c.requires.compared one later l m e f c.in-Some-attribute.attribute.now c.in-Some-attribute-2.other.now (c.may_be_rivals.ensures off))
