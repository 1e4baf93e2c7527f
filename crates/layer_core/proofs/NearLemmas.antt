-- The rule that a layer breaks because of one annotation, where it was well-formed before, in parts that look only near the annotation.
use Rattle.std.proofs.Common.{◌≡◌, ℕ, ◌+◌, ◌≤◌, Bool, true, false, ◌||◌, List, [], ◌∷◌, length, map, nat_lt, slice_get, refl, sym, ◌∙◌, ap, subst, Option, Some, None, if◌then◌else◌, arith}
use Rattle.std.specs.Option.{option_or, option_map, option_map_or, option_and_then}
use Rattle.std.specs.List.{AllByRecursion}
use Rattle.mark_base.specs.declared.ann_id.AnnId.{AnnId}
use Rattle.conf_model.specs.Configurations.{Configuration}
use Rattle.layer_model.specs.declared.mark.Mark.{Mark}
use Rattle.layer_model.specs.declared.mark.Mark.TheVariants as marked
use Rattle.layer_model.specs.declared.class.Class.{Class}
use Rattle.layer_model.specs.declared.rule.Rule.{Rule}
use Rattle.layer_model.specs.declared.rule.Rule.TheVariants.{AttributeThere, BadText, EquivMembers, LayerFull, OverlapRefused, SameEvent, SameRelation, SameSpan, TooDeep}
use Rattle.layer_model.specs.declared.flaw.Flaw.{Flaw}
use Rattle.layer_model.specs.declared.flaw.FlawPlace.{FlawPlace}
use Rattle.layer_model.specs.declared.flaw.FlawPlace.TheVariants as at
use Rattle.layer_model.specs.Annotations.{Annotations}
use Rattle.layer_model.specs.Layers.{IsLayer, mark_at}
use Rattle.layer_model.specs.Rules.{number_of}
use Rattle.layer_rules.specs.FlawPlaces.{first_place, first_rule, places}
use Rattle.layer_rules.specs.MarkRules.{where_so}
use Rattle.layer_rules.specs.LayerRules.{bad_text, classes_full, equiv_members, is_id, layer_full, refused_overlap, same_attributes, same_events, same_relations, same_spans, too_deep}
use Rattle.layer_rules.specs.WellFormed.{IsWellFormed, Never, at_bad_text, at_equiv_members, at_layer_full, at_too_deep, first_told, no_class}
use Rattle.layer_rules.specs.LowestFlaw.{HasGoodSpans, first_from, first_of, flaw_at, later_rules, single_rules}
use Rattle.layer_rules.proofs.CheckLemmas.{good_spans, in_two}
use Rattle.layer_rules.proofs.FlawLemmas.{or-None, or_assoc}
use Rattle.layer_rules.proofs.LawLemmas.{never}
use Rattle.layer_rules.proofs.PassLemmas.{only_classes}
use Rattle.layer_core.specs.Backs.{DiffersUnder}
use Rattle.layer_core.specs.Changes.{changed_rule}
use Rattle.layer_core.specs.Commands.{told_of}
use Rattle.layer_core.specs.Near.{has_it, later_near, leads_to_event, members_near, members_of_near, other_pair, overlap_near, pairs_near, rule_of_first, single_near, text_near}
use Rattle.layer_core.proofs.NearChainLemmas.{no_deeper}
use Rattle.layer_core.proofs.NearPairLemmas.{either_attribute, either_event, either_overlap, either_relation, either_span, no_class_at, no_class_tells, nothing_told, pair_part, told_first}
use Rattle.layer_core.proofs.NearSingleLemmas.{each_class, none_near, rule_in, single_is_near}
use Rattle.layer_core.proofs.TellLemmas.{low_rule, single_low}
use Rattle.layer_core.proofs.ElsewhereLemmas.{AlikeBut, alike, along, none_any, one_id}
use Rattle.layer_core.proofs.AlikeLemmas.{bad_members_same}

none_some : {X : Type 0} {x : X} → None ≡ Some x → ⊥
none_some e = cc

same_some : {X : Type 0} {a b : X} → Some a ≡ Some b → a ≡ b
same_some e = cc

-- ---- what is told of a flaw

-- a rule that carries no other annotation is told as it is
told_low : (conf : Configuration) (layer : Annotations) (id : AnnId) (rule : Rule) → number_of rule ≤ 13 → told_of conf layer id rule ≡ rule
told_low conf layer id (SameSpan x) low = absurd (let l : 14 ≤ 13 = low in omega (arith, l))
told_low conf layer id (SameEvent x) low = absurd (let l : 15 ≤ 13 = low in omega (arith, l))
told_low conf layer id (SameRelation x) low = absurd (let l : 16 ≤ 13 = low in omega (arith, l))
told_low conf layer id (AttributeThere x) low = absurd (let l : 17 ≤ 13 = low in omega (arith, l))
told_low conf layer id (OverlapRefused x) low = absurd (let l : 19 ≤ 13 = low in omega (arith, l))
told_low conf layer id rule low = refl

told_as_is : (tell : Rule → Rule) (o : Option Flaw) → ((flaw : Flaw) → o ≡ Some flaw → tell flaw.rule ≡ flaw.rule) → option_map (λ flaw. tell flaw.rule) o ≡ rule_in o
told_as_is tell None same = refl
told_as_is tell (Some flaw) same = ap (λ r. Some r) (same flaw refl)

so_told : (P : Rule → Type 0) (b : Bool) (broken rule : Rule) → P broken → where_so b broken ≡ Some rule → P rule
so_told P true broken rule h e = subst P (same_some e) h
so_told P false broken rule h e = absurd (none_some e)

-- what the rules on single places tell
single_told : (conf : Configuration) (characters : ℕ) (layer : Annotations) (id : AnnId)
    → option_map (λ flaw. told_of conf layer id flaw.rule) (first_rule (single_rules conf characters layer) (places layer)) ≡ rule_in (first_rule (single_rules conf characters layer) (places layer))
single_told conf characters layer id =
    told_as_is (told_of conf layer id) (first_rule (single_rules conf characters layer) (places layer))
    (λ flaw e. told_low conf layer id flaw.rule (let low = low_rule (single_rules conf characters layer) (single_low conf characters layer) (places layer) flaw e in omega (arith, low)))

-- the rule on chains
deep_told : (conf : Configuration) (layer : Annotations) (id : AnnId) → option_map (λ flaw. told_of conf layer id flaw.rule) (first_place (at_too_deep layer) (places layer)) ≡ rule_of_first (at_too_deep layer) layer
deep_told conf layer id =
    told_as_is (told_of conf layer id) (first_place (at_too_deep layer) (places layer))
    (told_first (λ rule. told_of conf layer id rule ≡ rule) (too_deep layer) no_class layer (places layer) marks (no_class_tells (λ rule. told_of conf layer id rule ≡ rule)))
  where
    marks : (i : AnnId) (mark : Mark) (rule : Rule) → too_deep layer i mark ≡ Some rule → told_of conf layer id rule ≡ rule
    marks i (marked.Event event) rule e = so_told (λ r. told_of conf layer id r ≡ r) _ TooDeep rule refl e
    marks i (marked.Span x) rule e = absurd (none_some e)
    marks i (marked.Relation x) rule e = absurd (none_some e)
    marks i (marked.Attribute x) rule e = absurd (none_some e)
    marks i (marked.Normal x) rule e = absurd (none_some e)
    marks i (marked.Note x) rule e = absurd (none_some e)

-- the rule on how many there are
full_told : (conf : Configuration) (layer : Annotations) (id : AnnId) → option_map (λ flaw. told_of conf layer id flaw.rule) (first_place (at_layer_full layer) (places layer)) ≡ rule_of_first (at_layer_full layer) layer
full_told conf layer id =
    told_as_is (told_of conf layer id) (first_place (at_layer_full layer) (places layer))
    (told_first (λ rule. told_of conf layer id rule ≡ rule) (layer_full layer) classes_full layer (places layer)
    (λ i mark rule e. so_told (λ r. told_of conf layer id r ≡ r) _ (LayerFull _) rule refl e) (λ i class rule e. so_told (λ r. told_of conf layer id r ≡ r) _ (LayerFull _) rule refl e))

-- ---- the rule on texts

text_told : (P : Rule → Type 0) → P BadText → (mark : Mark) (rule : Rule) → bad_text mark ≡ Some rule → P rule
text_told P h (marked.Normal x) rule e = so_told P _ BadText rule h e
text_told P h (marked.Note x) rule e = so_told P _ BadText rule h e
text_told P h (marked.Span x) rule e = absurd (none_some e)
text_told P h (marked.Event x) rule e = absurd (none_some e)
text_told P h (marked.Relation x) rule e = absurd (none_some e)
text_told P h (marked.Attribute x) rule e = absurd (none_some e)

text_kept : (a b : Annotations) (id : AnnId) → AlikeBut a b id → Never (at_bad_text b) → (other : AnnId) → is_id id other ≡ false → at_bad_text a (at.Mark other) ≡ None
text_kept a b id but kept other apart = ap (option_and_then bad_text) (but.marks other apart) ∙ kept (at.Mark other)

text_part : (conf : Configuration) (a b : Annotations) (id : AnnId) → AlikeBut a b id → Never (at_bad_text b)
    → option_map (λ flaw. told_of conf a id flaw.rule) (first_place (at_bad_text a) (places a)) ≡ text_near a id
text_part conf a b id but kept = split (first_place (at_bad_text a) (places a)) refl
  where
    here : (o : Option Rule) → option_and_then bad_text (mark_at a id) ≡ o → first_place (at_bad_text a) (places a) ≡ None → o ≡ None
    here o is none = sym is ∙ never (λ i. bad_text) no_class a none (at.Mark id)

    rule_is : (m : Option Mark) (rule : Rule) → option_and_then bad_text m ≡ Some rule → rule ≡ BadText
    rule_is None rule e = absurd (none_some e)
    rule_is (Some mark) rule e = text_told (λ r. r ≡ BadText) refl mark rule e

    told : (flaw : Flaw) → first_place (at_bad_text a) (places a) ≡ Some flaw → told_of conf a id flaw.rule ≡ BadText
    told flaw e =
        told_first (λ r. told_of conf a id r ≡ BadText) (λ i. bad_text) no_class a (places a) (λ i mark rule h. text_told (λ r. told_of conf a id r ≡ BadText) refl mark rule h)
        (no_class_tells (λ r. told_of conf a id r ≡ BadText)) flaw e

    nowhere : option_and_then bad_text (mark_at a id) ≡ None → (p : FlawPlace) → at_bad_text a p ≡ None
    nowhere none (at.Class index) = no_class_at (λ i. bad_text) a index
    nowhere none (at.Mark other) = by_id (is_id id other) refl
      where
        by_id : (b_ : Bool) → is_id id other ≡ b_ → at_bad_text a (at.Mark other) ≡ None
        by_id true is = subst (λ (i : AnnId). option_and_then bad_text (mark_at a i) ≡ None) (one_id id other is) none
        by_id false apart = text_kept a b id but kept other apart

    some_ : (flaw : Flaw) → first_place (at_bad_text a) (places a) ≡ Some flaw → (o : Option Rule) → option_and_then bad_text (mark_at a id) ≡ o → Some (told_of conf a id flaw.rule) ≡ o
    some_ flaw e None is = absurd (none_some (sym (nothing_told (at_bad_text a) (places a) (nowhere is)) ∙ e))
    some_ flaw e (Some rule) is = ap (λ r. Some r) (told flaw e ∙ sym (rule_is (mark_at a id) rule is))

    split : (o : Option Flaw) → first_place (at_bad_text a) (places a) ≡ o → option_map (λ flaw. told_of conf a id flaw.rule) o ≡ option_and_then bad_text (mark_at a id)
    split None e = sym (here (option_and_then bad_text (mark_at a id)) refl e)
    split (Some flaw) e = some_ flaw e (option_and_then bad_text (mark_at a id)) refl

-- ---- the rule on members

or_mapped : {X Y : Type 0} (f : X → Y) (a b : Option X) → option_map f (option_or a b) ≡ option_or (option_map f a) (option_map f b)
or_mapped f None b = refl
or_mapped f (Some a) b = refl

members_told : (conf : Configuration) (layer : Annotations) (id : AnnId) (place : FlawPlace) (b : Bool)
    → option_map (λ flaw. told_of conf layer id flaw.rule) (flaw_at place (where_so b EquivMembers)) ≡ where_so b EquivMembers
members_told conf layer id place true = refl
members_told conf layer id place false = refl

members_from : (conf : Configuration) (layer : Annotations) (id : AnnId) (index : ℕ) (classes : List Class)
    → AllByRecursion (λ class. has_it id class ≡ false → equiv_members conf layer class ≡ None) classes
    → option_map (λ flaw. told_of conf layer id flaw.rule) (first_from index (λ i. equiv_members conf layer) classes) ≡ first_told (members_of_near conf layer id) classes
members_from conf layer id index [] all = refl
members_from conf layer id index (class ∷ classes) all =
    or_mapped (λ (flaw : Flaw). told_of conf layer id flaw.rule) (flaw_at (at.Class index) (equiv_members conf layer class)) (first_from (index + 1) (λ i. equiv_members conf layer) classes)
    ∙ ap (λ o. option_or o (option_map (λ flaw. told_of conf layer id flaw.rule) (first_from (index + 1) (λ i. equiv_members conf layer) classes)))
    (members_told conf layer id (at.Class index) _ ∙ near (has_it id class) refl)
    ∙ ap (option_or (members_of_near conf layer id class)) (members_from conf layer id (index + 1) classes all.1)
  where
    near : (b : Bool) → has_it id class ≡ b → equiv_members conf layer class ≡ (if has_it id class then equiv_members conf layer class else None)
    near true is = sym (ap (λ b. if b then equiv_members conf layer class else None) is)
    near false is = all.0 is ∙ sym (ap (λ b. if b then equiv_members conf layer class else None) is)

-- a class that does not have the annotation is as it was
members_kept : (conf : Configuration) (a b : Annotations) (id : AnnId) (class : Class) → AlikeBut a b id → has_it id class ≡ false → equiv_members conf b class ≡ None → equiv_members conf a class ≡ None
members_kept conf a b id class but none before =
    ap (λ bad. where_so (nat_lt (length class.members) 2 || bad) EquivMembers)
    (bad_members_same conf a b class.kind.n class.members
    (along (λ other. is_id id other ≡ false) (λ other. mark_at a other ≡ mark_at b other) class.members (λ other e. but.marks other e) (none_any (is_id id) class.members none)))
    ∙ before

members_part : (conf : Configuration) (characters : ℕ) (a b : Annotations) (id : AnnId) → IsLayer a → IsWellFormed conf characters b → AlikeBut a b id
    → option_map (λ flaw. told_of conf a id flaw.rule) (first_place (at_equiv_members conf a) (places a)) ≡ members_near conf a id
members_part conf characters a b id layer kept but =
    ap (option_map (λ flaw. told_of conf a id flaw.rule)) (only_classes (λ i. equiv_members conf a) a layer)
    ∙ members_from conf a id 0 a.classes (each_class (λ class. has_it id class ≡ false → equiv_members conf a class ≡ None) a.classes far)
  where
    far : (index : ℕ) (class : Class) → slice_get a.classes index ≡ Some class → has_it id class ≡ false → equiv_members conf a class ≡ None
    far index class is none =
        let before : slice_get b.classes index ≡ Some class = sym (ap (λ cs. slice_get cs index) but.classes) ∙ is in
        members_kept conf a b id class but none (sym (ap (option_and_then (equiv_members conf b)) before) ∙ kept.members (at.Class index))

-- ---- all together

-- the rules of a list in turn, by what is told of each
in_turn : (tell : Flaw → Rule) (tests : List (FlawPlace → Option Rule)) (ps : List FlawPlace)
    → option_map tell (first_rule tests ps) ≡ first_of (map (λ told. option_map tell (first_place told ps)) tests)
in_turn tell [] ps = refl
in_turn tell (told ∷ tests) ps =
    or_mapped tell (first_place told ps) (first_rule tests ps) ∙ ap (option_or (option_map tell (first_place told ps))) (in_turn tell tests ps)

pairs_together : (s e r a rest : Option Rule) → option_or s (option_or e (option_or r (option_or a rest))) ≡ option_or (option_or s (option_or e (option_or r a))) rest
pairs_together s e r a rest =
    sym (or_assoc s (option_or e (option_or r a)) rest ∙ ap (option_or s) (or_assoc e (option_or r a) rest ∙ ap (option_or e) (or_assoc r a rest)))

later_part : (conf : Configuration) (characters : ℕ) (a b : Annotations) (id : AnnId) → IsLayer a → IsWellFormed conf characters b → AlikeBut a b id
    → option_map (λ flaw. told_of conf a id flaw.rule) (first_rule (later_rules conf a) (places a)) ≡ later_near conf a id
unfolding pairs_near
later_part conf characters a b id layer kept but =
    in_turn (λ flaw. told_of conf a id flaw.rule) (later_rules conf a) (places a)
    ∙ (λ i. first_of
    (deep_told conf a id i
    ∷ pair_part same_spans either_span SameSpan (told_of conf a id) a b id but kept.spans_differ (λ told. refl) i
    ∷ pair_part same_events either_event SameEvent (told_of conf a id) a b id but kept.events_differ (λ told. refl) i
    ∷ pair_part same_relations either_relation SameRelation (told_of conf a id) a b id but kept.relations_differ (λ told. refl) i
    ∷ pair_part same_attributes either_attribute AttributeThere (told_of conf a id) a b id but kept.attributes_differ (λ told. refl) i
    ∷ members_part conf characters a b id layer kept but i
    ∷ pair_part (refused_overlap conf) (either_overlap conf) OverlapRefused (told_of conf a id) a b id but kept.overlaps (λ told. refl) i
    ∷ text_part conf a b id but kept.texts i
    ∷ full_told conf a id i
    ∷ []))
    ∙ ap (option_or (rule_of_first (at_too_deep a) a))
    (pairs_together (option_map SameSpan (other_pair same_spans a id)) (option_map SameEvent (other_pair same_events a id)) (option_map SameRelation (other_pair same_relations a id))
    (option_map AttributeThere (other_pair same_attributes a id)) _
    ∙ ap (λ o. option_or (option_or (option_map SameSpan (other_pair same_spans a id)) (option_or (option_map SameEvent (other_pair same_events a id)) (option_or (option_map SameRelation (other_pair same_relations a id)) (option_map AttributeThere (other_pair same_attributes a id)))))
    (option_or (members_near conf a id) (option_or (overlap_near conf a id) (option_or (text_near a id) o))))
    (or-None (rule_of_first (at_layer_full a) a)))

-- the rule that a layer breaks because of the annotation of an ID, in parts
pub changed_in_parts : (conf : Configuration) (characters : ℕ) (a b : Annotations) (id : AnnId) → IsLayer a → IsWellFormed conf characters b → DiffersUnder a id b
    → changed_rule conf characters a id ≡ option_or (single_near conf characters a id) (later_near conf a id)
changed_in_parts conf characters a b id layer kept differs =
    let but : AlikeBut a b id = alike a b id differs in
    ap (option_map (λ flaw. told_of conf a id flaw.rule)) (in_two conf characters a)
    ∙ or_mapped (λ (flaw : Flaw). told_of conf a id flaw.rule) (first_rule (single_rules conf characters a) (places a)) (first_rule (later_rules conf a) (places a))
    ∙ ap (λ o. option_or o (option_map (λ flaw. told_of conf a id flaw.rule) (first_rule (later_rules conf a) (places a)))) (single_told conf characters a id ∙ single_is_near conf characters a b id kept but)
    ∙ ap (option_or (single_near conf characters a id)) (later_part conf characters a b id layer kept but)

-- where nothing near breaks a rule on one place, the spans are good
pub good_where_none : (conf : Configuration) (characters : ℕ) (a b : Annotations) (id : AnnId) → IsLayer a → IsWellFormed conf characters b → DiffersUnder a id b → None ≡ single_near conf characters a id
    → HasGoodSpans conf a
good_where_none conf characters a b id layer kept differs none = good_spans conf characters a layer (none_near conf characters a b id kept (alike a b id differs) none)

-- where the annotation leads to no event, no chain is too deep
pub none_deeper : (conf : Configuration) (characters : ℕ) (a b : Annotations) (id : AnnId) → IsWellFormed conf characters b → DiffersUnder a id b → option_map_or leads_to_event (mark_at a id) false ≡ false
    → rule_of_first (at_too_deep a) a ≡ None
none_deeper conf characters a b id kept differs leads = ap rule_in (no_deeper conf characters a b id kept (alike a b id differs) leads)
