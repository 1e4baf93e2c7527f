use Rattle.std.proofs.Common.{◌≡◌, ◌∙◌, ap, refl, sym, option_map, slice_get, Some, None}
use Rattle.std.specs.Arc.{arc_value}
use Rattle.std.specs.FinMap as finite
use Rattle.std.proofs.lemmas.Option.{same_Some}
use Rattle.layer_model.specs.declared.mark.Mark.TheVariants as marked
use Rattle.layer_rules.specs.LayerRules.{refused_overlap}
use Rattle.layer_model.specs.Annotations.{Annotations}
use Rattle.unanimous_merge.specs.Rows.{held_at}
use Rattle.curator_decisions.proofs.BesideLemmas.{clash_is, spans_two}
use Rattle.curator_decisions.proofs.CuratedParts.{Row}
use Rattle.curator_decisions.proofs.beside.spans_may_clash.Goals as goal

pub returns-in_default-span : goal.returns-in_default-span
returns-in_default-span c none =
    let rows = c.args.snapshot.now in
    let one = c.args.one in
    let later = c.args.later in
    let l : Annotations = arc_value c.in-Some.layer.now in
    let m : Annotations = arc_value c.in-Some-layer.others.now in
    let e : Some l ≡ option_map (λ (row : Row). row.1) (slice_get rows one.item.holder) = c.in-Some.ensures ∙ ap (λ i. option_map (λ (row : Row). row.1) (slice_get rows i)) c.from.ensures in
    let f : Some m ≡ option_map (λ (row : Row). row.1) (slice_get rows later.item.holder) = c.in-Some-layer.ensures ∙ ap (λ i. option_map (λ (row : Row). row.1) (slice_get rows i)) c.from-2.ensures in
    clash_is c.args.conf.now rows (held_at c.args.table.now.table one) (held_at c.args.table.now.table later) (Some l) (Some m) e f
    ∙ spans_two c.args.conf.now l m one.item.id later.item.id c.requires.span c.requires.other None (finite.get m.spans later.item.id.number) (c.in_default-span.ensures ∙ ap (λ (z : Annotations). finite.get z.spans one.item.id.number) c.deref.ensures) refl (λ x y p q. cc)

pub returns-in_default-span-2 : goal.returns-in_default-span-2
returns-in_default-span-2 c none =
    let rows = c.args.snapshot.now in
    let one = c.args.one in
    let later = c.args.later in
    let l : Annotations = arc_value c.in-Some.layer.now in
    let m : Annotations = arc_value c.in-Some-layer.others.now in
    let e : Some l ≡ option_map (λ (row : Row). row.1) (slice_get rows one.item.holder) = c.in-Some.ensures ∙ ap (λ i. option_map (λ (row : Row). row.1) (slice_get rows i)) c.from.ensures in
    let f : Some m ≡ option_map (λ (row : Row). row.1) (slice_get rows later.item.holder) = c.in-Some-layer.ensures ∙ ap (λ i. option_map (λ (row : Row). row.1) (slice_get rows i)) c.from-2.ensures in
    clash_is c.args.conf.now rows (held_at c.args.table.now.table one) (held_at c.args.table.now.table later) (Some l) (Some m) e f
    ∙ spans_two c.args.conf.now l m one.item.id later.item.id c.requires.span c.requires.other (finite.get l.spans one.item.id.number) None refl (c.in_default-span-2.ensures ∙ ap (λ (z : Annotations). finite.get z.spans later.item.id.number) c.deref-2.ensures) (λ x y p q. cc)

pub returns : goal.returns
returns c off =
    let rows = c.args.snapshot.now in
    let one = c.args.one in
    let later = c.args.later in
    let l : Annotations = arc_value c.in-Some.layer.now in
    let m : Annotations = arc_value c.in-Some-layer.others.now in
    let e : Some l ≡ option_map (λ (row : Row). row.1) (slice_get rows one.item.holder) = c.in-Some.ensures ∙ ap (λ i. option_map (λ (row : Row). row.1) (slice_get rows i)) c.from.ensures in
    let f : Some m ≡ option_map (λ (row : Row). row.1) (slice_get rows later.item.holder) = c.in-Some-layer.ensures ∙ ap (λ i. option_map (λ (row : Row). row.1) (slice_get rows i)) c.from-2.ensures in
    clash_is c.args.conf.now rows (held_at c.args.table.now.table one) (held_at c.args.table.now.table later) (Some l) (Some m) e f
    ∙ spans_two c.args.conf.now l m one.item.id later.item.id c.requires.span c.requires.other (Some c.in-Some-span.span.now) (Some c.in-Some-span-2.other.now) (c.in-Some-span.ensures ∙ ap (λ (z : Annotations). finite.get z.spans one.item.id.number) c.deref.ensures) (c.in-Some-span-2.ensures ∙ ap (λ (z : Annotations). finite.get z.spans later.item.id.number) c.deref-2.ensures) (λ x y p q. (λ i. refused_overlap c.args.conf.now (marked.Span (sym (same_Some _ _ q) i)) (marked.Span (sym (same_Some _ _ p) i))) ∙ c.may_refuse.ensures off)
