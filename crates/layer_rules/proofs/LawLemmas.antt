-- A layer has no least flaw exactly where no place breaks a rule.
use Rattle.std.proofs.Common.{◌≡◌, ℕ, ◌+◌, ◌<◌, ◌≤◌, ◌⊎◌, inl, inr, zero, suc, Bool, true, false, ◌||◌, List, [], ◌∷◌, ◌++◌, map, length, slice_get, refl, sym, ◌∙◌, ap, subst, Option, Some, None, arith}
use Rattle.std.specs.Option.{option_or, option_map, option_and_then, is_some}
use Rattle.std.specs.List.{AllByRecursion, list_any, range_with_len}
use Rattle.std.specs.Ordering.{nat_cmp, eq_by_cmp, is_eq}
use Rattle.std.specs.Cmp.{ranked}
use Rattle.std.specs.declared.cmp.Ordering.TheVariants.{Less, Equal, Greater}
use Rattle.std.specs.FinMap as finite
use Rattle.std.specs.FinMap.{contains_key-keys}
use Rattle.mark_base.specs.declared.ann_id.AnnId.{AnnId}
use Rattle.mark_base.specs.declared.ann_id.Kind.{Kind}
use Rattle.mark_base.specs.declared.ann_id.Kind.TheVariants as letter
use Rattle.conf_model.specs.Configurations.{Configuration}
use Rattle.layer_model.specs.declared.mark.Mark.{Mark}
use Rattle.layer_model.specs.declared.mark.Mark.TheVariants as marked
use Rattle.layer_model.specs.declared.class.Class.{Class}
use Rattle.layer_model.specs.declared.rule.Rule.{Rule}
use Rattle.layer_model.specs.declared.flaw.FlawPlace.{FlawPlace}
use Rattle.layer_model.specs.declared.flaw.FlawPlace.TheVariants as at
use Rattle.layer_model.specs.Annotations.{Annotations}
use Rattle.layer_model.specs.Layers.{mark_at, mark_of, numbers}
use Rattle.mark_base.specs.ReadIds.{id_at}
use Rattle.mark_base.proofs.IdLemmas.{id_at-id}
use Rattle.layer_rules.specs.FlawPlaces.{by_place, first_place, first_rule, places}
use Rattle.layer_rules.specs.MarkRules.{unknown_type, unknown_class, not_for_use, class_not_for_use, bad_fragments, out_of_text, span_too_long, named_by, first_missing, wanted_by, member, first_unwanted, unknown_role, argument_type, too_many, unknown_value}
use Rattle.layer_rules.specs.LayerRules.{too_deep, same_span, same_event, same_relation, attribute_there, equiv_members, overlap_refused, bad_text, layer_full, classes_full}
use Rattle.layer_rules.specs.WellFormed.{no_class, Never, IsWellFormed, in_order, least_flaw}
use Rattle.layer_rules.specs.LowestFlaw.{flaw_at}
use Rattle.layer_rules.proofs.PlaceLemmas.{by_letters, class_places, places_of}

none_some : {X : Type 0} {x : X} → Some x ≡ None → ⊥
none_some e = cc

some_none : {X : Type 0} {x : X} → None ≡ Some x → ⊥
some_none e = cc

-- ---- places that break nothing

left : {X : Type 0} (a b : Option X) → option_or a b ≡ None → a ≡ None
left None b e = refl
left (Some a) b e = absurd (none_some e)

right : {X : Type 0} (a b : Option X) → option_or a b ≡ None → b ≡ None
right None b e = e
right (Some a) b e = absurd (none_some e)

unflawed : (place : FlawPlace) (o : Option Rule) → flaw_at place o ≡ None → o ≡ None
unflawed place None e = refl
unflawed place (Some rule) e = absurd (none_some e)

none_each : (told : FlawPlace → Option Rule) (ps : List FlawPlace) → first_place told ps ≡ None → AllByRecursion (λ p. told p ≡ None) ps
none_each told [] e = tt
none_each told (p ∷ ps) e = (unflawed p (told p) (left (flaw_at p (told p)) (first_place told ps) e), none_each told ps (right (flaw_at p (told p)) (first_place told ps) e))

each_none : (told : FlawPlace → Option Rule) (ps : List FlawPlace) → ((p : FlawPlace) → told p ≡ None) → first_place told ps ≡ None
each_none told [] h = refl
each_none told (p ∷ ps) h = ap (λ o. option_or (flaw_at p o) (first_place told ps)) (h p) ∙ each_none told ps h

front : {X : Type 0} (P : X → Type 0) (xs ys : List X) → AllByRecursion P (xs ++ ys) → AllByRecursion P xs
front P [] ys all = tt
front P (x ∷ xs) ys all = (all.0, front P xs ys all.1)

back : {X : Type 0} (P : X → Type 0) (xs ys : List X) → AllByRecursion P (xs ++ ys) → AllByRecursion P ys
back P [] ys all = all
back P (x ∷ xs) ys all = back P xs ys all.1

-- what is true of each place is true of those of a letter
of_letter : (P : FlawPlace → Type 0) (layer : Annotations) (kind : Kind) → AllByRecursion P (places layer) → AllByRecursion P (places_of layer kind)
of_letter P layer kind all = pick kind
  where
    t : AllByRecursion P (places_of layer letter.Text ++ (places_of layer letter.Event ++ (places_of layer letter.Relation ++ (places_of layer letter.Attribute
        ++ (places_of layer letter.Legacy ++ (places_of layer letter.Normal ++ (places_of layer letter.Note ++ class_places layer)))))))
    t = subst (AllByRecursion P) (by_letters layer) all

    pick : (k : Kind) → AllByRecursion P (places_of layer k)
    pick letter.Text = front P (places_of layer letter.Text) _ t
    pick letter.Event = front P (places_of layer letter.Event) _ (back P (places_of layer letter.Text) _ t)
    pick letter.Relation = front P (places_of layer letter.Relation) _ (back P (places_of layer letter.Event) _ (back P (places_of layer letter.Text) _ t))
    pick letter.Attribute = front P (places_of layer letter.Attribute) _ (back P (places_of layer letter.Relation) _ (back P (places_of layer letter.Event) _ (back P (places_of layer letter.Text) _ t)))
    pick letter.Legacy = front P (places_of layer letter.Legacy) _ (back P (places_of layer letter.Attribute) _ (back P (places_of layer letter.Relation) _ (back P (places_of layer letter.Event) _ (back P (places_of layer letter.Text) _ t))))
    pick letter.Normal =
        front P (places_of layer letter.Normal) _ (back P (places_of layer letter.Legacy) _ (back P (places_of layer letter.Attribute) _ (back P (places_of layer letter.Relation) _ (back P (places_of layer letter.Event) _ (back P (places_of layer letter.Text) _ t)))))
    pick letter.Note =
        front P (places_of layer letter.Note) _ (back P (places_of layer letter.Normal) _ (back P (places_of layer letter.Legacy) _ (back P (places_of layer letter.Attribute) _ (back P (places_of layer letter.Relation) _ (back P (places_of layer letter.Event) _ (back P (places_of layer letter.Text) _ t))))))

-- and of those of the classes
of_classes : (P : FlawPlace → Type 0) (layer : Annotations) → AllByRecursion P (places layer) → AllByRecursion P (class_places layer)
of_classes P layer all =
    back P (places_of layer letter.Note) _ (back P (places_of layer letter.Normal) _ (back P (places_of layer letter.Legacy) _ (back P (places_of layer letter.Attribute) _
    (back P (places_of layer letter.Relation) _ (back P (places_of layer letter.Event) _ (back P (places_of layer letter.Text) _ (subst (AllByRecursion P) (by_letters layer) all)))))))

pub same_number : (m n : ℕ) → eq_by_cmp nat_cmp m n ≡ true → n ≡ m
same_number m n e =
    elim (nat_cmp m n) as (λ r. r ≡ nat_cmp m n → is_eq r ≡ true → n ≡ m) [
      | Less ↦ λ _ h. absurd (let f : false ≡ true = h in cc)
      | Equal ↦ λ is _. sym (ranked m n Equal is)
      | Greater ↦ λ _ h. absurd (let f : false ≡ true = h in cc)
    ] refl e

at_number : (P : FlawPlace → Type 0) (kind : Kind) (n : ℕ) (ns : List ℕ) → AllByRecursion P (map at.Mark (map (id_at kind) ns)) → list_any (eq_by_cmp nat_cmp n) ns ≡ true → P (at.Mark (id_at kind n))
at_number P kind n [] all e = absurd (let f : false ≡ true = e in cc)
at_number P kind n (k ∷ ns) all e = split (eq_by_cmp nat_cmp n k) refl e (at_number P kind n ns all.1)
  where
    split : (b : Bool) → eq_by_cmp nat_cmp n k ≡ b → (b || list_any (eq_by_cmp nat_cmp n) ns) ≡ true → (list_any (eq_by_cmp nat_cmp n) ns ≡ true → P (at.Mark (id_at kind n))) → P (at.Mark (id_at kind n))
    split true is h later = subst (λ m. P (at.Mark (id_at kind m))) (same_number n k is) all.0
    split false is h later = later h

wrapped : {V : Type 0} (wrap : V → Mark) (o : Option V) (mark : Mark) → option_map wrap o ≡ Some mark → is_some o ≡ true
wrapped wrap None mark e = absurd (some_none e)
wrapped wrap (Some v) mark e = refl

-- a mark that stands has its number among those of its letter
pub stands : (layer : Annotations) (kind : Kind) (n : ℕ) (mark : Mark) → mark_of layer kind n ≡ Some mark → list_any (eq_by_cmp nat_cmp n) (numbers layer kind) ≡ true
stands layer letter.Text n mark e = sym (contains_key-keys layer.spans n) ∙ wrapped marked.Span (finite.get layer.spans n) mark e
stands layer letter.Event n mark e = sym (contains_key-keys layer.events n) ∙ wrapped marked.Event (finite.get layer.events n) mark e
stands layer letter.Relation n mark e = sym (contains_key-keys layer.relations n) ∙ wrapped marked.Relation (finite.get layer.relations n) mark e
stands layer letter.Attribute n mark e = sym (contains_key-keys layer.attributes n) ∙ wrapped marked.Attribute (finite.get layer.attributes n) mark e
stands layer letter.Legacy n mark e = sym (contains_key-keys layer.legacy n) ∙ wrapped marked.Attribute (finite.get layer.legacy n) mark e
stands layer letter.Normal n mark e = sym (contains_key-keys layer.normals n) ∙ wrapped marked.Normal (finite.get layer.normals n) mark e
stands layer letter.Note n mark e = sym (contains_key-keys layer.notes n) ∙ wrapped marked.Note (finite.get layer.notes n) mark e

pub either : (a b : ℕ) → a ≤ b → (a ≡ b) ⊎ (a < b)
either a b h =
    elim (nat_cmp a b) as (λ r. r ≡ nat_cmp a b → (a ≡ b) ⊎ (a < b)) [
      | Less ↦ λ is. inr (ranked a b Less is)
      | Equal ↦ λ is. inl (ranked a b Equal is)
      | Greater ↦ λ is. absurd (let more_ = ranked a b Greater is in omega arith)
    ] refl

in_range : (P : FlawPlace → Type 0) (start count j : ℕ) → AllByRecursion P (map at.Class (range_with_len start count)) → start ≤ j → j < start + count → P (at.Class j)
in_range P start zero j all low high = absurd (omega arith)
in_range P start (suc count) j all low high = split (either start j low) (in_range P (start + 1) count j all.1)
  where
    split : (start ≡ j) ⊎ (start < j) → (start + 1 ≤ j → j < (start + 1) + count → P (at.Class j)) → P (at.Class j)
    split (inl same) later = subst (λ i. P (at.Class i)) same all.0
    split (inr less) later = later (omega arith) (omega arith)

within : {X : Type 0} (xs : List X) (i : ℕ) (x : X) → slice_get xs i ≡ Some x → i < length xs
within [] i x e = absurd (some_none e)
within (y ∷ xs) zero x e = omega arith
within (y ∷ xs) (suc i) x e = let later = within xs i x e in omega arith

-- where no place of a layer breaks a rule, no place at all does
pub never : (f : AnnId → Mark → Option Rule) (g : ℕ → Class → Option Rule) (layer : Annotations) → first_place (by_place f g layer) (places layer) ≡ None → Never (by_place f g layer)
never f g layer e (at.Mark id) = split (mark_at layer id) refl
  where
    split : (o : Option Mark) → mark_at layer id ≡ o → by_place f g layer (at.Mark id) ≡ None
    split None is = ap (option_and_then (f id)) is
    split (Some mark) is =
        subst (λ i. by_place f g layer (at.Mark i) ≡ None) (id_at-id id)
        (at_number (λ p. by_place f g layer p ≡ None) id.kind id.number (numbers layer id.kind)
        (of_letter (λ p. by_place f g layer p ≡ None) layer id.kind (none_each (by_place f g layer) (places layer) e)) (stands layer id.kind id.number mark is))
never f g layer e (at.Class i) = split (slice_get layer.classes i) refl
  where
    split : (o : Option Class) → slice_get layer.classes i ≡ o → by_place f g layer (at.Class i) ≡ None
    split None is = ap (option_and_then (g i)) is
    split (Some class) is =
        let below = within layer.classes i class is in
        in_range (λ p. by_place f g layer p ≡ None) 0 (length layer.classes) i (of_classes (λ p. by_place f g layer p ≡ None) layer (none_each (by_place f g layer) (places layer) e)) (omega arith) (omega arith)

pub parted : (tests : List (FlawPlace → Option Rule)) (ps : List FlawPlace) → first_rule tests ps ≡ None → AllByRecursion (λ told. first_place told ps ≡ None) tests
parted [] ps e = tt
parted (told ∷ tests) ps e = (left (first_place told ps) (first_rule tests ps) e, parted tests ps (right (first_place told ps) (first_rule tests ps) e))

together : (tests : List (FlawPlace → Option Rule)) (ps : List FlawPlace) → AllByRecursion Never tests → first_rule tests ps ≡ None
together [] ps all = refl
together (told ∷ tests) ps all = ap (λ o. option_or o (first_rule tests ps)) (each_none told ps all.0) ∙ together tests ps all.1

-- a layer without a flaw is well-formed
pub unflawed_is_well_formed : (conf : Configuration) (characters : ℕ) (layer : Annotations) → least_flaw conf characters layer ≡ None → IsWellFormed conf characters layer
unfolding least_flaw
unflawed_is_well_formed conf characters layer h =
    let r = parted (in_order conf characters layer) (places layer) h in
    record {
      types = never (λ id. unknown_type conf) (λ index. unknown_class conf) layer r.0;
      for_use = never (λ id. not_for_use conf) (λ index. class_not_for_use conf) layer r.1.0;
      fragments = never (λ id. bad_fragments) no_class layer r.1.1.0;
      in_text = never (λ id. out_of_text characters) no_class layer r.1.1.1.0;
      short = never (λ id. span_too_long) no_class layer r.1.1.1.1.0;
      there = never (λ id mark. first_missing layer (named_by mark)) (λ index class. first_missing layer class.members) layer r.1.1.1.1.1.0;
      fitting = never (λ id mark. first_unwanted (wanted_by conf layer mark)) (λ index class. first_unwanted (map (member conf layer) class.members)) layer r.1.1.1.1.1.1.0;
      roles = never (λ id. unknown_role conf) no_class layer r.1.1.1.1.1.1.1.0;
      admitted = never (λ id. argument_type conf layer) no_class layer r.1.1.1.1.1.1.1.1.0;
      not_too_many = never (λ id. too_many conf) no_class layer r.1.1.1.1.1.1.1.1.1.0;
      values = never (λ id. unknown_value conf) no_class layer r.1.1.1.1.1.1.1.1.1.1.0;
      shallow = never (too_deep layer) no_class layer r.1.1.1.1.1.1.1.1.1.1.1.0;
      spans_differ = never (same_span layer) no_class layer r.1.1.1.1.1.1.1.1.1.1.1.1.0;
      events_differ = never (same_event layer) no_class layer r.1.1.1.1.1.1.1.1.1.1.1.1.1.0;
      relations_differ = never (same_relation layer) no_class layer r.1.1.1.1.1.1.1.1.1.1.1.1.1.1.0;
      attributes_differ = never (attribute_there layer) no_class layer r.1.1.1.1.1.1.1.1.1.1.1.1.1.1.1.0;
      members = never (λ id mark. None) (λ index. equiv_members conf layer) layer r.1.1.1.1.1.1.1.1.1.1.1.1.1.1.1.1.0;
      overlaps = never (overlap_refused conf layer) no_class layer r.1.1.1.1.1.1.1.1.1.1.1.1.1.1.1.1.1.0;
      texts = never (λ id. bad_text) no_class layer r.1.1.1.1.1.1.1.1.1.1.1.1.1.1.1.1.1.1.0;
      room = never (layer_full layer) classes_full layer r.1.1.1.1.1.1.1.1.1.1.1.1.1.1.1.1.1.1.1.0;
    }

-- a well-formed layer has no flaw
pub well_formed_is_unflawed : (conf : Configuration) (characters : ℕ) (layer : Annotations) → IsWellFormed conf characters layer → least_flaw conf characters layer ≡ None
unfolding least_flaw
well_formed_is_unflawed conf characters layer kept =
    together (in_order conf characters layer) (places layer) (kept.types, (kept.for_use, (kept.fragments, (kept.in_text, (kept.short, (kept.there, (kept.fitting, (kept.roles, (kept.admitted, (kept.not_too_many, (kept.values, (kept.shallow, (kept.spans_differ, (kept.events_differ, (kept.relations_differ, (kept.attributes_differ, (kept.members, (kept.overlaps, (kept.texts, (kept.room, tt))))))))))))))))))))
