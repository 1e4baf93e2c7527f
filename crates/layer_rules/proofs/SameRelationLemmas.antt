-- Relations of one type and the same arguments.
use Rattle.std.proofs.Common.{◌≡◌, Bool, ◌&&◌, ◌==◌, [], ◌∷◌, refl, sym, ◌∙◌, ap, None}
use Rattle.std.specs.Option.{option_map}
use Rattle.std.specs.FinMap as finite
use Rattle.mark_base.specs.declared.ann_id.AnnId.{AnnId}
use Rattle.mark_base.specs.declared.ann_id.Kind.TheVariants as letter
use Rattle.layer_model.specs.declared.relation.Relation.{Relation}
use Rattle.layer_model.specs.declared.mark.Mark.{Mark}
use Rattle.layer_model.specs.declared.mark.Mark.TheVariants as marked
use Rattle.layer_model.specs.declared.rule.Rule.TheVariants.{SameRelation}
use Rattle.layer_model.specs.Annotations.{Annotations}
use Rattle.layer_model.specs.Layers.{IsLayer}
use Rattle.layer_model.specs.Classes.{rank}
use Rattle.layer_model.specs.LayerIds.{ids_of}
use Rattle.layer_rules.specs.FlawPlaces.{first_place, places}
use Rattle.layer_rules.specs.LayerRules.{same_relation, same_relations}
use Rattle.layer_rules.specs.WellFormed.{at_same_relation}
use Rattle.layer_rules.specs.Repeats.{keyed, repeat_after, same_numbers, relation_key}
use Rattle.layer_rules.proofs.FlawLemmas.{or-None}
use Rattle.layer_rules.proofs.PassLemmas.{only_relations}
use Rattle.layer_rules.proofs.PairLemmas.{among_items, among_letter, first_repeats, flaw_of, found_by_letters, items, keyed_items, lower, not_among, pair_below, unpaired, up_entries}
use Rattle.layer_rules.proofs.FirstSeenLemmas.{and_three, and_true, same_cons}

relations_same : (v w : Relation) → same_relations (marked.Relation v) (marked.Relation w) ≡ same_numbers (relation_key v) (relation_key w)
relations_same v w =
    and_three (v.kind.n == w.kind.n) (rank v.first == rank w.first) (rank v.second == rank w.second)
    ∙ sym (same_cons v.kind.n w.kind.n (rank v.first ∷ rank v.second ∷ []) (rank w.first ∷ rank w.second ∷ [])
    ∙ ap (λ r. v.kind.n == w.kind.n && r) (same_cons (rank v.first) (rank w.first) (rank v.second ∷ []) (rank w.second ∷ [])
    ∙ ap (λ r. rank v.first == rank w.first && r) (same_cons (rank v.second) (rank w.second) [] [] ∙ and_true (rank v.second == rank w.second))))

lower_relation : (layer : Annotations) → IsLayer layer → (id : AnnId) (relation : Relation)
    → same_relation layer id (marked.Relation relation) ≡ option_map SameRelation (lower (λ w. same_relations (marked.Relation relation) (marked.Relation w)) id (items letter.Relation (finite.entries layer.relations)))
lower_relation layer kept id relation =
    let pairs : Mark → Bool = same_relations (marked.Relation relation) in
    ap (option_map SameRelation)
    (found_by_letters (pair_below pairs layer id) layer None None _ None None None None
    (not_among pairs layer id letter.Text marked.Span layer.spans (λ k. refl) kept.spans refl (λ v. refl))
    (not_among pairs layer id letter.Event marked.Event layer.events (λ k. refl) kept.events refl (λ v. refl))
    (among_letter pairs layer id letter.Relation marked.Relation layer.relations (λ k. refl) kept.relations refl)
    (not_among pairs layer id letter.Attribute marked.Attribute layer.attributes (λ k. refl) kept.attributes refl (λ v. refl))
    (not_among pairs layer id letter.Legacy marked.Attribute layer.legacy (λ k. refl) kept.legacy refl (λ v. refl))
    (not_among pairs layer id letter.Normal marked.Normal layer.normals (λ k. refl) kept.normals refl (λ v. refl))
    (not_among pairs layer id letter.Note marked.Note layer.notes (λ k. refl) kept.notes refl (λ v. refl))
    ∙ or-None _)

not_relation : (layer : Annotations) (id : AnnId) (mark : Mark) → ((relation : Relation) → mark ≡ marked.Relation relation → ⊥) → same_relation layer id mark ≡ None
not_relation layer id (marked.Relation a) not = absurd (not a refl)
not_relation layer id (marked.Event a) not = ap (option_map SameRelation) (unpaired (same_relations (marked.Event a)) (λ m. refl) layer id (ids_of layer))
not_relation layer id (marked.Span a) not = ap (option_map SameRelation) (unpaired (same_relations (marked.Span a)) (λ m. refl) layer id (ids_of layer))
not_relation layer id (marked.Attribute a) not = ap (option_map SameRelation) (unpaired (same_relations (marked.Attribute a)) (λ m. refl) layer id (ids_of layer))
not_relation layer id (marked.Normal a) not = ap (option_map SameRelation) (unpaired (same_relations (marked.Normal a)) (λ m. refl) layer id (ids_of layer))
not_relation layer id (marked.Note a) not = ap (option_map SameRelation) (unpaired (same_relations (marked.Note a)) (λ m. refl) layer id (ids_of layer))

-- the flaw at the first span that is like another is that of the first repeat of numbers
pub same_relation_found : (layer : Annotations) → IsLayer layer
    → option_map (flaw_of SameRelation) (repeat_after [] (keyed letter.Relation relation_key (finite.entries layer.relations))) ≡ first_place (at_same_relation layer) (places layer)
same_relation_found layer kept =
    ap (λ ks. option_map (flaw_of SameRelation) (repeat_after [] ks)) (keyed_items letter.Relation relation_key (finite.entries layer.relations))
    ∙ sym (only_relations (same_relation layer) layer kept (not_relation layer)
    ∙ among_items letter.Relation (λ id v. same_relation layer id (marked.Relation v)) (finite.entries layer.relations)
    ∙ first_repeats SameRelation relation_key (λ v w. same_relations (marked.Relation v) (marked.Relation w)) (λ id v. same_relation layer id (marked.Relation v)) (items letter.Relation (finite.entries layer.relations))
    (up_entries letter.Relation layer.relations kept.relations) relations_same (lower_relation layer kept) [] (items letter.Relation (finite.entries layer.relations)) refl)
