-- One pass over a layer for one rule: the places letter by letter, and those that cannot break it.
use Rattle.std.proofs.Common.{◌≡◌, ℕ, ◌+◌, suc, List, [], ◌∷◌, ◌++◌, map, length, slice_get, refl, sym, ◌∙◌, ap, Option, Some, None, arith}
use Rattle.std.specs.Option.{option_or, option_map, option_and_then}
use Rattle.std.specs.List.{range_with_len}
use Rattle.std.specs.Ordering.{nat_cmp}
use Rattle.std.specs.FinMap as finite
use Rattle.mark_base.specs.declared.ann_id.AnnId.{AnnId}
use Rattle.mark_base.specs.declared.ann_id.Kind.{Kind}
use Rattle.mark_base.specs.declared.ann_id.Kind.TheVariants as letter
use Rattle.layer_model.specs.declared.mark.Mark.{Mark}
use Rattle.layer_model.specs.declared.mark.Mark.TheVariants as marked
use Rattle.layer_model.specs.declared.class.Class.{Class}
use Rattle.layer_model.specs.declared.rule.Rule.{Rule}
use Rattle.layer_model.specs.declared.flaw.Flaw.{Flaw}
use Rattle.layer_model.specs.declared.flaw.FlawPlace.{FlawPlace}
use Rattle.layer_model.specs.declared.flaw.FlawPlace.TheVariants as at
use Rattle.layer_model.specs.Annotations.{Annotations}
use Rattle.layer_model.specs.Layers.{IsLayer, mark_of, numbers}
use Rattle.layer_model.specs.Numbers.{NumbersFit}
use Rattle.mark_base.specs.ReadIds.{id_at}
use Rattle.layer_rules.specs.FlawPlaces.{by_place, first_place, places}
use Rattle.layer_rules.specs.WellFormed.{no_class}
use Rattle.layer_rules.specs.LowestFlaw.{first_among, first_from, flaw_at}
use Rattle.layer_rules.proofs.FlawLemmas.{or-None}
use Rattle.layer_rules.proofs.PlaceLemmas.{at_entries, by_letters, class_places, first-append, first_keys, places_of}

-- the first place that breaks a rule, letter by letter
pub first_by_places : (told : FlawPlace → Option Rule) (layer : Annotations) (s e r a m n t c : Option Flaw)
    → first_place told (places_of layer letter.Text) ≡ s → first_place told (places_of layer letter.Event) ≡ e → first_place told (places_of layer letter.Relation) ≡ r
    → first_place told (places_of layer letter.Attribute) ≡ a → first_place told (places_of layer letter.Legacy) ≡ m → first_place told (places_of layer letter.Normal) ≡ n
    → first_place told (places_of layer letter.Note) ≡ t → first_place told (class_places layer) ≡ c
    → first_place told (places layer) ≡ option_or s (option_or e (option_or r (option_or a (option_or m (option_or n (option_or t c))))))
first_by_places told layer s e r a m n t c ss es rs as_ ms ns ts cs =
    ap (first_place told) (by_letters layer)
    ∙ more letter.Text s ss _ _ (more letter.Event e es _ _ (more letter.Relation r rs _ _ (more letter.Attribute a as_ _ _ (more letter.Legacy m ms _ _ (more letter.Normal n ns _ _ (more letter.Note t ts _ _ cs))))))
  where
    more : (kind : Kind) (one : Option Flaw) → first_place told (places_of layer kind) ≡ one → (rest : Option Flaw) (ps : List FlawPlace) → first_place told ps ≡ rest
        → first_place told (places_of layer kind ++ ps) ≡ option_or one rest
    more kind one is rest ps later = first-append told (places_of layer kind) ps ∙ ap (λ o. option_or o (first_place told ps)) is ∙ ap (option_or one) later

-- the first annotation of a letter that breaks a rule, by its entries
pub letter_first : {V : Type 0} (f : AnnId → Mark → Option Rule) (g : ℕ → Class → Option Rule) (layer : Annotations) (kind : Kind) (wrap : V → Mark) (m : finite.FinMap nat_cmp V)
    → ((n : ℕ) → mark_of layer kind n ≡ option_map wrap (finite.get m n)) → NumbersFit m → numbers layer kind ≡ finite.keys m
    → first_place (by_place f g layer) (places_of layer kind) ≡ first_among kind (λ n v. f (id_at kind n) (wrap v)) (finite.entries m)
letter_first f g layer kind wrap m same fits keys =
    ap (λ ns. first_place (by_place f g layer) (map at.Mark (map (id_at kind) ns))) keys
    ∙ first_keys (by_place f g layer) kind (λ n v. f (id_at kind n) (wrap v)) (finite.entries m) (at_entries f g layer kind wrap m same fits)

pub none_among : {V : Type 0} (kind : Kind) (f : ℕ → V → Option Rule) (es : List (ℕ × V)) → ((n : ℕ) (v : V) → f n v ≡ None) → first_among kind f es ≡ None
none_among kind f [] none = refl
none_among kind f (e ∷ es) none = ap (λ o. option_or (flaw_at (at.Mark (id_at kind e.0)) o) (first_among kind f es)) (none e.0 e.1) ∙ none_among kind f es none

-- no annotation of a letter breaks it
pub letter_none : {V : Type 0} (f : AnnId → Mark → Option Rule) (g : ℕ → Class → Option Rule) (layer : Annotations) (kind : Kind) (wrap : V → Mark) (m : finite.FinMap nat_cmp V)
    → ((n : ℕ) → mark_of layer kind n ≡ option_map wrap (finite.get m n)) → NumbersFit m → numbers layer kind ≡ finite.keys m
    → ((id : AnnId) (v : V) → f id (wrap v) ≡ None) → first_place (by_place f g layer) (places_of layer kind) ≡ None
letter_none f g layer kind wrap m same fits keys none =
    letter_first f g layer kind wrap m same fits keys ∙ none_among kind (λ n v. f (id_at kind n) (wrap v)) (finite.entries m) (λ n v. none (id_at kind n) v)

-- the first class that breaks a rule
classes_from : (told : FlawPlace → Option Rule) (g : ℕ → Class → Option Rule) (i : ℕ) (cs : List Class)
    → ((k j : ℕ) → j ≡ i + k → told (at.Class j) ≡ option_and_then (g j) (slice_get cs k)) → first_place told (map at.Class (range_with_len i (length cs))) ≡ first_from i g cs
classes_from told g i [] all = refl
classes_from told g i (c ∷ cs) all =
    ap (λ o. option_or (flaw_at (at.Class i) o) (first_place told (map at.Class (range_with_len (i + 1) (length cs))))) (all 0 i (omega arith))
    ∙ ap (option_or (flaw_at (at.Class i) (g i c))) (classes_from told g (i + 1) cs (λ k j e. all (suc k) j (omega arith)))

pub classes_first : (f : AnnId → Mark → Option Rule) (g : ℕ → Class → Option Rule) (layer : Annotations) → first_place (by_place f g layer) (class_places layer) ≡ first_from 0 g layer.classes
classes_first f g layer =
    classes_from (by_place f g layer) g 0 layer.classes (λ k j is. ap (λ i. option_and_then (g j) (slice_get layer.classes i)) (let same : j ≡ k = omega arith in same))

none_from : (i : ℕ) (cs : List Class) → first_from i no_class cs ≡ None
none_from i [] = refl
none_from i (c ∷ cs) = none_from (i + 1) cs

pub classes_none : (f : AnnId → Mark → Option Rule) (layer : Annotations) → first_place (by_place f no_class layer) (class_places layer) ≡ None
classes_none f layer = classes_first f no_class layer ∙ none_from 0 layer.classes

-- ---- a rule that spans alone may break, or another sort alone

pub only_spans : (f : AnnId → Mark → Option Rule) (layer : Annotations) → IsLayer layer
    → ((id : AnnId) (mark : Mark) → ((span : _) → mark ≡ marked.Span span → ⊥) → f id mark ≡ None)
    → first_place (by_place f no_class layer) (places layer) ≡ first_among letter.Text (λ n v. f (id_at letter.Text n) (marked.Span v)) (finite.entries layer.spans)
only_spans f layer kept none =
    first_by_places (by_place f no_class layer) layer _ None None None None None None None
    (letter_first f no_class layer letter.Text marked.Span layer.spans (λ k. refl) kept.spans refl)
    (letter_none f no_class layer letter.Event marked.Event layer.events (λ k. refl) kept.events refl (λ id v. none id (marked.Event v) (λ x e. cc)))
    (letter_none f no_class layer letter.Relation marked.Relation layer.relations (λ k. refl) kept.relations refl (λ id v. none id (marked.Relation v) (λ x e. cc)))
    (letter_none f no_class layer letter.Attribute marked.Attribute layer.attributes (λ k. refl) kept.attributes refl (λ id v. none id (marked.Attribute v) (λ x e. cc)))
    (letter_none f no_class layer letter.Legacy marked.Attribute layer.legacy (λ k. refl) kept.legacy refl (λ id v. none id (marked.Attribute v) (λ x e. cc)))
    (letter_none f no_class layer letter.Normal marked.Normal layer.normals (λ k. refl) kept.normals refl (λ id v. none id (marked.Normal v) (λ x e. cc)))
    (letter_none f no_class layer letter.Note marked.Note layer.notes (λ k. refl) kept.notes refl (λ id v. none id (marked.Note v) (λ x e. cc)))
    (classes_none f layer)
    ∙ or-None _

pub only_events : (f : AnnId → Mark → Option Rule) (layer : Annotations) → IsLayer layer
    → ((id : AnnId) (mark : Mark) → ((event : _) → mark ≡ marked.Event event → ⊥) → f id mark ≡ None)
    → first_place (by_place f no_class layer) (places layer) ≡ first_among letter.Event (λ n v. f (id_at letter.Event n) (marked.Event v)) (finite.entries layer.events)
only_events f layer kept none =
    first_by_places (by_place f no_class layer) layer None _ None None None None None None
    (letter_none f no_class layer letter.Text marked.Span layer.spans (λ k. refl) kept.spans refl (λ id v. none id (marked.Span v) (λ x e. cc)))
    (letter_first f no_class layer letter.Event marked.Event layer.events (λ k. refl) kept.events refl)
    (letter_none f no_class layer letter.Relation marked.Relation layer.relations (λ k. refl) kept.relations refl (λ id v. none id (marked.Relation v) (λ x e. cc)))
    (letter_none f no_class layer letter.Attribute marked.Attribute layer.attributes (λ k. refl) kept.attributes refl (λ id v. none id (marked.Attribute v) (λ x e. cc)))
    (letter_none f no_class layer letter.Legacy marked.Attribute layer.legacy (λ k. refl) kept.legacy refl (λ id v. none id (marked.Attribute v) (λ x e. cc)))
    (letter_none f no_class layer letter.Normal marked.Normal layer.normals (λ k. refl) kept.normals refl (λ id v. none id (marked.Normal v) (λ x e. cc)))
    (letter_none f no_class layer letter.Note marked.Note layer.notes (λ k. refl) kept.notes refl (λ id v. none id (marked.Note v) (λ x e. cc)))
    (classes_none f layer)
    ∙ or-None _

pub only_relations : (f : AnnId → Mark → Option Rule) (layer : Annotations) → IsLayer layer
    → ((id : AnnId) (mark : Mark) → ((relation : _) → mark ≡ marked.Relation relation → ⊥) → f id mark ≡ None)
    → first_place (by_place f no_class layer) (places layer) ≡ first_among letter.Relation (λ n v. f (id_at letter.Relation n) (marked.Relation v)) (finite.entries layer.relations)
only_relations f layer kept none =
    first_by_places (by_place f no_class layer) layer None None _ None None None None None
    (letter_none f no_class layer letter.Text marked.Span layer.spans (λ k. refl) kept.spans refl (λ id v. none id (marked.Span v) (λ x e. cc)))
    (letter_none f no_class layer letter.Event marked.Event layer.events (λ k. refl) kept.events refl (λ id v. none id (marked.Event v) (λ x e. cc)))
    (letter_first f no_class layer letter.Relation marked.Relation layer.relations (λ k. refl) kept.relations refl)
    (letter_none f no_class layer letter.Attribute marked.Attribute layer.attributes (λ k. refl) kept.attributes refl (λ id v. none id (marked.Attribute v) (λ x e. cc)))
    (letter_none f no_class layer letter.Legacy marked.Attribute layer.legacy (λ k. refl) kept.legacy refl (λ id v. none id (marked.Attribute v) (λ x e. cc)))
    (letter_none f no_class layer letter.Normal marked.Normal layer.normals (λ k. refl) kept.normals refl (λ id v. none id (marked.Normal v) (λ x e. cc)))
    (letter_none f no_class layer letter.Note marked.Note layer.notes (λ k. refl) kept.notes refl (λ id v. none id (marked.Note v) (λ x e. cc)))
    (classes_none f layer)
    ∙ or-None _

pub only_attributes : (f : AnnId → Mark → Option Rule) (layer : Annotations) → IsLayer layer
    → ((id : AnnId) (mark : Mark) → ((attribute : _) → mark ≡ marked.Attribute attribute → ⊥) → f id mark ≡ None)
    → first_place (by_place f no_class layer) (places layer)
    ≡ option_or (first_among letter.Attribute (λ n v. f (id_at letter.Attribute n) (marked.Attribute v)) (finite.entries layer.attributes))
    (first_among letter.Legacy (λ n v. f (id_at letter.Legacy n) (marked.Attribute v)) (finite.entries layer.legacy))
only_attributes f layer kept none =
    first_by_places (by_place f no_class layer) layer None None None _ _ None None None
    (letter_none f no_class layer letter.Text marked.Span layer.spans (λ k. refl) kept.spans refl (λ id v. none id (marked.Span v) (λ x e. cc)))
    (letter_none f no_class layer letter.Event marked.Event layer.events (λ k. refl) kept.events refl (λ id v. none id (marked.Event v) (λ x e. cc)))
    (letter_none f no_class layer letter.Relation marked.Relation layer.relations (λ k. refl) kept.relations refl (λ id v. none id (marked.Relation v) (λ x e. cc)))
    (letter_first f no_class layer letter.Attribute marked.Attribute layer.attributes (λ k. refl) kept.attributes refl)
    (letter_first f no_class layer letter.Legacy marked.Attribute layer.legacy (λ k. refl) kept.legacy refl)
    (letter_none f no_class layer letter.Normal marked.Normal layer.normals (λ k. refl) kept.normals refl (λ id v. none id (marked.Normal v) (λ x e. cc)))
    (letter_none f no_class layer letter.Note marked.Note layer.notes (λ k. refl) kept.notes refl (λ id v. none id (marked.Note v) (λ x e. cc)))
    (classes_none f layer)
    ∙ ap (option_or _) (or-None _)

pub only_texts : (f : AnnId → Mark → Option Rule) (layer : Annotations) → IsLayer layer
    → ((id : AnnId) (v : _) → f id (marked.Span v) ≡ None) → ((id : AnnId) (v : _) → f id (marked.Event v) ≡ None)
    → ((id : AnnId) (v : _) → f id (marked.Relation v) ≡ None) → ((id : AnnId) (v : _) → f id (marked.Attribute v) ≡ None)
    → first_place (by_place f no_class layer) (places layer)
    ≡ option_or (first_among letter.Normal (λ n v. f (id_at letter.Normal n) (marked.Normal v)) (finite.entries layer.normals))
    (first_among letter.Note (λ n v. f (id_at letter.Note n) (marked.Note v)) (finite.entries layer.notes))
only_texts f layer kept spans events relations attributes =
    first_by_places (by_place f no_class layer) layer None None None None None _ _ None
    (letter_none f no_class layer letter.Text marked.Span layer.spans (λ k. refl) kept.spans refl spans)
    (letter_none f no_class layer letter.Event marked.Event layer.events (λ k. refl) kept.events refl events)
    (letter_none f no_class layer letter.Relation marked.Relation layer.relations (λ k. refl) kept.relations refl relations)
    (letter_none f no_class layer letter.Attribute marked.Attribute layer.attributes (λ k. refl) kept.attributes refl attributes)
    (letter_none f no_class layer letter.Legacy marked.Attribute layer.legacy (λ k. refl) kept.legacy refl attributes)
    (letter_first f no_class layer letter.Normal marked.Normal layer.normals (λ k. refl) kept.normals refl)
    (letter_first f no_class layer letter.Note marked.Note layer.notes (λ k. refl) kept.notes refl)
    (classes_none f layer)
    ∙ ap (option_or _) (or-None _)

-- a rule that classes alone may break
pub only_classes : (g : ℕ → Class → Option Rule) (layer : Annotations) → IsLayer layer
    → first_place (by_place (λ id mark. None) g layer) (places layer) ≡ first_from 0 g layer.classes
only_classes g layer kept =
    let f : AnnId → Mark → Option Rule = λ id mark. None in
    first_by_places (by_place f g layer) layer None None None None None None None (first_from 0 g layer.classes)
    (letter_none f g layer letter.Text marked.Span layer.spans (λ k. refl) kept.spans refl (λ id v. refl))
    (letter_none f g layer letter.Event marked.Event layer.events (λ k. refl) kept.events refl (λ id v. refl))
    (letter_none f g layer letter.Relation marked.Relation layer.relations (λ k. refl) kept.relations refl (λ id v. refl))
    (letter_none f g layer letter.Attribute marked.Attribute layer.attributes (λ k. refl) kept.attributes refl (λ id v. refl))
    (letter_none f g layer letter.Legacy marked.Attribute layer.legacy (λ k. refl) kept.legacy refl (λ id v. refl))
    (letter_none f g layer letter.Normal marked.Normal layer.normals (λ k. refl) kept.normals refl (λ id v. refl))
    (letter_none f g layer letter.Note marked.Note layer.notes (λ k. refl) kept.notes refl (λ id v. refl))
    (classes_first f g layer)

-- ---- a pass, one annotation or class at a time

pub among_found : {V : Type 0} (kind : Kind) (f : ℕ → V → Option Rule) (rest later : List (ℕ × V)) (n : ℕ) (v : V) (rule : Rule) (whole : Option Flaw)
    → rest ≡ (n, v) ∷ later → Some rule ≡ f n v → first_among kind f rest ≡ whole → Some (record { rule = rule; at = at.Mark (id_at kind n) }) ≡ whole
among_found kind f rest later n v rule whole is told before =
    ap (λ o. option_or (flaw_at (at.Mark (id_at kind n)) o) (first_among kind f later)) told ∙ sym (ap (first_among kind f) is) ∙ before

pub among_passed : {V : Type 0} (kind : Kind) (f : ℕ → V → Option Rule) (rest later : List (ℕ × V)) (n : ℕ) (v : V) (whole : Option Flaw)
    → rest ≡ (n, v) ∷ later → None ≡ f n v → first_among kind f rest ≡ whole → first_among kind f later ≡ whole
among_passed kind f rest later n v whole is told before =
    ap (λ o. option_or (flaw_at (at.Mark (id_at kind n)) o) (first_among kind f later)) told ∙ sym (ap (first_among kind f) is) ∙ before

pub among_nowhere : {V : Type 0} (kind : Kind) (f : ℕ → V → Option Rule) (rest : List (ℕ × V)) (whole : Option Flaw) → rest ≡ [] → first_among kind f rest ≡ whole → None ≡ whole
among_nowhere kind f rest whole is before = sym (ap (first_among kind f) is) ∙ before

pub from_found : (g : ℕ → Class → Option Rule) (rest later : List Class) (i : ℕ) (class : Class) (rule : Rule) (whole : Option Flaw)
    → rest ≡ class ∷ later → Some rule ≡ g i class → first_from i g rest ≡ whole → Some (record { rule = rule; at = at.Class i }) ≡ whole
from_found g rest later i class rule whole is told before =
    ap (λ o. option_or (flaw_at (at.Class i) o) (first_from (i + 1) g later)) told ∙ sym (ap (first_from i g) is) ∙ before

pub from_passed : (g : ℕ → Class → Option Rule) (rest later : List Class) (i : ℕ) (class : Class) (whole : Option Flaw)
    → rest ≡ class ∷ later → None ≡ g i class → first_from i g rest ≡ whole → first_from (i + 1) g later ≡ whole
from_passed g rest later i class whole is told before =
    ap (λ o. option_or (flaw_at (at.Class i) o) (first_from (i + 1) g later)) told ∙ sym (ap (first_from i g) is) ∙ before

pub from_nowhere : (g : ℕ → Class → Option Rule) (rest : List Class) (i : ℕ) (whole : Option Flaw) → rest ≡ [] → first_from i g rest ≡ whole → None ≡ whole
from_nowhere g rest i whole is before = sym (ap (first_from i g) is) ∙ before
