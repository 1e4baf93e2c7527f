-- Spans of one type and the same fragments.
use Rattle.std.proofs.Common.{◌≡◌, Bool, ◌&&◌, ◌==◌, List, [], ◌∷◌, refl, sym, ◌∙◌, ap, None}
use Rattle.std.specs.Option.{option_map}
use Rattle.std.specs.List.{flat_map}
use Rattle.std.specs.FinMap as finite
use Rattle.mark_base.specs.declared.ann_id.AnnId.{AnnId}
use Rattle.mark_base.specs.declared.ann_id.Kind.TheVariants as letter
use Rattle.mark_base.specs.declared.fragments.Frag.{Frag}
use Rattle.layer_model.specs.declared.span.Span.{Span}
use Rattle.layer_model.specs.declared.mark.Mark.{Mark}
use Rattle.layer_model.specs.declared.mark.Mark.TheVariants as marked
use Rattle.layer_model.specs.declared.rule.Rule.TheVariants.{SameSpan}
use Rattle.layer_model.specs.Annotations.{Annotations}
use Rattle.layer_model.specs.Layers.{IsLayer}
use Rattle.layer_model.specs.Span.{same_fragments}
use Rattle.layer_model.specs.LayerIds.{ids_of}
use Rattle.layer_rules.specs.FlawPlaces.{first_place, places}
use Rattle.layer_rules.specs.LayerRules.{same_span, same_spans}
use Rattle.layer_rules.specs.WellFormed.{at_same_span}
use Rattle.layer_rules.specs.Repeats.{keyed, frag_key, repeat_after, same_numbers, span_key}
use Rattle.layer_rules.proofs.FlawLemmas.{or-None}
use Rattle.layer_rules.proofs.PassLemmas.{only_spans}
use Rattle.layer_rules.proofs.PairLemmas.{among_items, among_letter, first_repeats, flaw_of, found_by_letters, items, keyed_items, lower, not_among, pair_below, unpaired, up_entries}
use Rattle.layer_rules.proofs.FirstSeenLemmas.{and_three, same_cons}

frags_same : (as_ bs : List Frag) → same_fragments as_ bs ≡ same_numbers (flat_map frag_key as_) (flat_map frag_key bs)
frags_same [] [] = refl
frags_same [] (b ∷ bs) = refl
frags_same (a ∷ as_) [] = refl
frags_same (a ∷ as_) (b ∷ bs) =
    and_three (a.start == b.start) (a.end == b.end) (same_fragments as_ bs)
    ∙ ap (λ r. a.start == b.start && (a.end == b.end && r)) (frags_same as_ bs)
    ∙ sym (same_cons a.start b.start (a.end ∷ flat_map frag_key as_) (b.end ∷ flat_map frag_key bs) ∙ ap (λ r. a.start == b.start && r) (same_cons a.end b.end (flat_map frag_key as_) (flat_map frag_key bs)))

spans_same : (v w : Span) → same_spans (marked.Span v) (marked.Span w) ≡ same_numbers (span_key v) (span_key w)
spans_same v w =
    ap (λ r. v.kind.n == w.kind.n && r) (frags_same v.frags w.frags)
    ∙ sym (same_cons v.kind.n w.kind.n (flat_map frag_key v.frags) (flat_map frag_key w.frags))

lower_span : (layer : Annotations) → IsLayer layer → (id : AnnId) (span : Span)
    → same_span layer id (marked.Span span) ≡ option_map SameSpan (lower (λ w. same_spans (marked.Span span) (marked.Span w)) id (items letter.Text (finite.entries layer.spans)))
lower_span layer kept id span =
    let pairs : Mark → Bool = same_spans (marked.Span span) in
    ap (option_map SameSpan)
    (found_by_letters (pair_below pairs layer id) layer _ None None None None None None
    (among_letter pairs layer id letter.Text marked.Span layer.spans (λ k. refl) kept.spans refl)
    (not_among pairs layer id letter.Event marked.Event layer.events (λ k. refl) kept.events refl (λ v. refl))
    (not_among pairs layer id letter.Relation marked.Relation layer.relations (λ k. refl) kept.relations refl (λ v. refl))
    (not_among pairs layer id letter.Attribute marked.Attribute layer.attributes (λ k. refl) kept.attributes refl (λ v. refl))
    (not_among pairs layer id letter.Legacy marked.Attribute layer.legacy (λ k. refl) kept.legacy refl (λ v. refl))
    (not_among pairs layer id letter.Normal marked.Normal layer.normals (λ k. refl) kept.normals refl (λ v. refl))
    (not_among pairs layer id letter.Note marked.Note layer.notes (λ k. refl) kept.notes refl (λ v. refl))
    ∙ or-None _)

not_span : (layer : Annotations) (id : AnnId) (mark : Mark) → ((span : Span) → mark ≡ marked.Span span → ⊥) → same_span layer id mark ≡ None
not_span layer id (marked.Span a) not = absurd (not a refl)
not_span layer id (marked.Event a) not = ap (option_map SameSpan) (unpaired (same_spans (marked.Event a)) (λ m. refl) layer id (ids_of layer))
not_span layer id (marked.Relation a) not = ap (option_map SameSpan) (unpaired (same_spans (marked.Relation a)) (λ m. refl) layer id (ids_of layer))
not_span layer id (marked.Attribute a) not = ap (option_map SameSpan) (unpaired (same_spans (marked.Attribute a)) (λ m. refl) layer id (ids_of layer))
not_span layer id (marked.Normal a) not = ap (option_map SameSpan) (unpaired (same_spans (marked.Normal a)) (λ m. refl) layer id (ids_of layer))
not_span layer id (marked.Note a) not = ap (option_map SameSpan) (unpaired (same_spans (marked.Note a)) (λ m. refl) layer id (ids_of layer))

-- the flaw at the first span that is like another is that of the first repeat of numbers
pub same_span_found : (layer : Annotations) → IsLayer layer
    → option_map (flaw_of SameSpan) (repeat_after [] (keyed letter.Text span_key (finite.entries layer.spans))) ≡ first_place (at_same_span layer) (places layer)
same_span_found layer kept =
    ap (λ ks. option_map (flaw_of SameSpan) (repeat_after [] ks)) (keyed_items letter.Text span_key (finite.entries layer.spans))
    ∙ sym (only_spans (same_span layer) layer kept (not_span layer)
    ∙ among_items letter.Text (λ id v. same_span layer id (marked.Span v)) (finite.entries layer.spans)
    ∙ first_repeats SameSpan span_key (λ v w. same_spans (marked.Span v) (marked.Span w)) (λ id v. same_span layer id (marked.Span v)) (items letter.Text (finite.entries layer.spans))
    (up_entries letter.Text layer.spans kept.spans) spans_same (lower_span layer kept) [] (items letter.Text (finite.entries layer.spans)) refl)
