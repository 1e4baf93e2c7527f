-- Attributes of one type and target, under either letter.
use Rattle.std.proofs.Common.{◌≡◌, Bool, ◌&&◌, ◌==◌, List, [], ◌∷◌, ◌++◌, refl, sym, ◌∙◌, ap, Option, None, arith}
use Rattle.std.specs.Option.{option_or, option_map}
use Rattle.std.specs.FinMap as finite
use Rattle.mark_base.specs.declared.ann_id.AnnId.{AnnId}
use Rattle.mark_base.specs.declared.ann_id.Kind.TheVariants as letter
use Rattle.layer_model.specs.declared.attribute.Attribute.{Attribute}
use Rattle.layer_model.specs.declared.mark.Mark.{Mark}
use Rattle.layer_model.specs.declared.mark.Mark.TheVariants as marked
use Rattle.layer_model.specs.declared.rule.Rule.TheVariants.{AttributeThere}
use Rattle.layer_model.specs.Annotations.{Annotations}
use Rattle.layer_model.specs.Layers.{IsLayer}
use Rattle.layer_model.specs.Classes.{rank}
use Rattle.layer_model.specs.declared.rule.Rule.{Rule}
use Rattle.mark_base.specs.ReadIds.{id_at}
use Rattle.layer_model.specs.LayerIds.{ids_of}
use Rattle.layer_rules.specs.FlawPlaces.{first_place, places}
use Rattle.layer_rules.specs.LayerRules.{attribute_there, same_attributes}
use Rattle.layer_rules.specs.WellFormed.{at_attribute_there}
use Rattle.layer_rules.specs.Repeats.{keyed, repeat_after, same_numbers, attribute_key}
use Rattle.layer_rules.specs.LowestFlaw.{first_among}
use Rattle.layer_rules.proofs.FlawLemmas.{or-None}
use Rattle.layer_rules.proofs.PassLemmas.{only_attributes}
use Rattle.layer_rules.proofs.PairLemmas.{among_items, among_letter, first_repeats, flaw_of, found_by_letters, items, keyed_items, keys, lower, not_among, pair_below, unpaired, up_entries, first_item, first_item-append, up_both, two_letters}
use Rattle.layer_rules.proofs.FirstSeenLemmas.{and_true, same_cons}

attributes_same : (v w : Attribute) → same_attributes (marked.Attribute v) (marked.Attribute w) ≡ same_numbers (attribute_key v) (attribute_key w)
attributes_same v w =
    sym (same_cons v.kind.n w.kind.n (rank v.target ∷ []) (rank w.target ∷ [])
    ∙ ap (λ r. v.kind.n == w.kind.n && r) (same_cons (rank v.target) (rank w.target) [] [] ∙ and_true (rank v.target == rank w.target)))

-- the attributes of both letters
abbrev all_of : Annotations → List (AnnId × Attribute)
all_of layer = items letter.Attribute (finite.entries layer.attributes) ++ items letter.Legacy (finite.entries layer.legacy)

lower_attribute : (layer : Annotations) → IsLayer layer → (id : AnnId) (attribute : Attribute)
    → attribute_there layer id (marked.Attribute attribute) ≡ option_map AttributeThere (lower (λ w. same_attributes (marked.Attribute attribute) (marked.Attribute w)) id (all_of layer))
lower_attribute layer kept id attribute =
    let pairs : Mark → Bool = same_attributes (marked.Attribute attribute) in
    ap (option_map AttributeThere)
    (found_by_letters (pair_below pairs layer id) layer None None None _ _ None None
    (not_among pairs layer id letter.Text marked.Span layer.spans (λ k. refl) kept.spans refl (λ v. refl))
    (not_among pairs layer id letter.Event marked.Event layer.events (λ k. refl) kept.events refl (λ v. refl))
    (not_among pairs layer id letter.Relation marked.Relation layer.relations (λ k. refl) kept.relations refl (λ v. refl))
    (among_letter pairs layer id letter.Attribute marked.Attribute layer.attributes (λ k. refl) kept.attributes refl)
    (among_letter pairs layer id letter.Legacy marked.Attribute layer.legacy (λ k. refl) kept.legacy refl)
    (not_among pairs layer id letter.Normal marked.Normal layer.normals (λ k. refl) kept.normals refl (λ v. refl))
    (not_among pairs layer id letter.Note marked.Note layer.notes (λ k. refl) kept.notes refl (λ v. refl))
    ∙ ap (option_or _) (or-None _)
    ∙ sym (two_letters (λ w. same_attributes (marked.Attribute attribute) (marked.Attribute w)) id (items letter.Attribute (finite.entries layer.attributes)) (items letter.Legacy (finite.entries layer.legacy))))

not_attribute : (layer : Annotations) (id : AnnId) (mark : Mark) → ((attribute : Attribute) → mark ≡ marked.Attribute attribute → ⊥) → attribute_there layer id mark ≡ None
not_attribute layer id (marked.Attribute a) not = absurd (not a refl)
not_attribute layer id (marked.Span a) not = ap (option_map AttributeThere) (unpaired (same_attributes (marked.Span a)) (λ m. refl) layer id (ids_of layer))
not_attribute layer id (marked.Event a) not = ap (option_map AttributeThere) (unpaired (same_attributes (marked.Event a)) (λ m. refl) layer id (ids_of layer))
not_attribute layer id (marked.Relation a) not = ap (option_map AttributeThere) (unpaired (same_attributes (marked.Relation a)) (λ m. refl) layer id (ids_of layer))
not_attribute layer id (marked.Normal a) not = ap (option_map AttributeThere) (unpaired (same_attributes (marked.Normal a)) (λ m. refl) layer id (ids_of layer))
not_attribute layer id (marked.Note a) not = ap (option_map AttributeThere) (unpaired (same_attributes (marked.Note a)) (λ m. refl) layer id (ids_of layer))

keys_both : (xs ys : List (AnnId × Attribute)) → keys attribute_key (xs ++ ys) ≡ keys attribute_key xs ++ keys attribute_key ys
keys_both [] ys = refl
keys_both (x ∷ xs) ys = ap (λ r. (x.0, attribute_key x.1) ∷ r) (keys_both xs ys)

-- the flaw at the first attribute that is like another is that of the first repeat of numbers
pub attribute_found : (layer : Annotations) → IsLayer layer
    → option_map (flaw_of AttributeThere) (repeat_after [] (keyed letter.Attribute attribute_key (finite.entries layer.attributes) ++ keyed letter.Legacy attribute_key (finite.entries layer.legacy)))
    ≡ first_place (at_attribute_there layer) (places layer)
attribute_found layer kept =
    let told : AnnId → Attribute → Option Rule = λ id v. attribute_there layer id (marked.Attribute v) in
    ap (λ ks. option_map (flaw_of AttributeThere) (repeat_after [] (ks ++ keyed letter.Legacy attribute_key (finite.entries layer.legacy)))) (keyed_items letter.Attribute attribute_key (finite.entries layer.attributes))
    ∙ ap (λ ks. option_map (flaw_of AttributeThere) (repeat_after [] (keys attribute_key (items letter.Attribute (finite.entries layer.attributes)) ++ ks))) (keyed_items letter.Legacy attribute_key (finite.entries layer.legacy))
    ∙ sym (ap (λ ks. option_map (flaw_of AttributeThere) (repeat_after [] ks)) (keys_both (items letter.Attribute (finite.entries layer.attributes)) (items letter.Legacy (finite.entries layer.legacy))))
    ∙ sym (only_attributes (attribute_there layer) layer kept (not_attribute layer)
    ∙ ap (λ o. option_or o (first_among letter.Legacy (λ n v. told (id_at letter.Legacy n) v) (finite.entries layer.legacy))) (among_items letter.Attribute told (finite.entries layer.attributes))
    ∙ ap (option_or (first_item told (items letter.Attribute (finite.entries layer.attributes)))) (among_items letter.Legacy told (finite.entries layer.legacy))
    ∙ sym (first_item-append told (items letter.Attribute (finite.entries layer.attributes)) (items letter.Legacy (finite.entries layer.legacy)))
    ∙ first_repeats AttributeThere attribute_key (λ v w. same_attributes (marked.Attribute v) (marked.Attribute w)) told (all_of layer)
    (up_both letter.Attribute letter.Legacy (finite.entries layer.attributes) (finite.entries layer.legacy) (omega arith) (up_entries letter.Attribute layer.attributes kept.attributes) (up_entries letter.Legacy layer.legacy kept.legacy))
    attributes_same (lower_attribute layer kept) [] (all_of layer) refl)
