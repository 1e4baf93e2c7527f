-- The annotations that make a pair with one, among those that name what it names.
use Rattle.std.proofs.Common.{◌≡◌, ℕ, Bool, true, false, not, ◌&&◌, refl, sym, ◌∙◌, ap, subst, Option, Some, None, if◌then◌else◌}
use Rattle.std.specs.Option.{option_map, option_map_or, option_and_then}
use Rattle.std.specs.List.{find, list_any}
use Rattle.std.specs.FinMap as finite
use Rattle.mark_base.specs.declared.ann_id.AnnId.{AnnId}
use Rattle.mark_base.specs.declared.ann_id.Kind.{Kind}
use Rattle.mark_base.specs.declared.ann_id.Kind.TheVariants as letter
use Rattle.layer_model.specs.declared.span.Span.{Span}
use Rattle.layer_model.specs.declared.event.Event.{Event}
use Rattle.layer_model.specs.declared.relation.Relation.{Relation}
use Rattle.layer_model.specs.declared.mark.Mark.{Mark}
use Rattle.layer_model.specs.declared.mark.Mark.TheVariants as marked
use Rattle.layer_model.specs.Annotations.{Annotations}
use Rattle.layer_model.specs.Layers.{attribute_at, attribute_of, mark_at, mark_of}
use Rattle.layer_model.specs.LayerIds.{ids_of}
use Rattle.layer_rules.specs.LayerRules.{is_id, same_attributes, same_events, same_relations, same_spans}
use Rattle.layer_rules.specs.MarkRules.{named_by}
use Rattle.layer_core.specs.CommandRules.{is_event_letter, is_relation_letter, is_span_letter}
use Rattle.layer_core.specs.Commands.{other_than}
use Rattle.layer_core.specs.MadeLayers.{event_of, relation_of, span_of}
use Rattle.layer_core.specs.Namers.{is_but, names_it, namers_but}
use Rattle.layer_core.specs.Near.{PairsName, other_pair}
use Rattle.layer_core.proofs.NearIdLemmas.{find_kept, found_nowhere, not_both}

none_some : {X : Type 0} {x : X} → None ≡ Some x → ⊥
none_some e = cc

same_some : {X : Type 0} {a b : X} → Some a ≡ Some b → a ≡ b
same_some e = cc

no_way : {A : Type 0} → false ≡ true → A
no_way e = absurd (let f : false ≡ true = e in cc)

with_false : (a : Bool) → (a && false) ≡ false
with_false true = refl
with_false false = refl

parted : (a b : Bool) → (a && b) ≡ true → (a ≡ true) × (b ≡ true)
parted true b e = (refl, e)
parted false b e = no_way e

-- ---- what stands under an ID of a letter

abbrev pub span_by : Annotations → Kind → ℕ → Option Span
span_by layer kind n = if is_span_letter kind then finite.get layer.spans n else None

abbrev pub event_by : Annotations → Kind → ℕ → Option Event
event_by layer kind n = if is_event_letter kind then finite.get layer.events n else None

abbrev pub relation_by : Annotations → Kind → ℕ → Option Relation
relation_by layer kind n = if is_relation_letter kind then finite.get layer.relations n else None

pub span_letter : (layer : Annotations) (kind : Kind) (n : ℕ) (span : Span) → Some span ≡ span_by layer kind n → kind ≡ letter.Text
span_letter layer letter.Text n span e = refl
span_letter layer letter.Event n span e = absurd (none_some (sym e))
span_letter layer letter.Relation n span e = absurd (none_some (sym e))
span_letter layer letter.Attribute n span e = absurd (none_some (sym e))
span_letter layer letter.Legacy n span e = absurd (none_some (sym e))
span_letter layer letter.Normal n span e = absurd (none_some (sym e))
span_letter layer letter.Note n span e = absurd (none_some (sym e))

pub span_mark : (layer : Annotations) (kind : Kind) (n : ℕ) (span : Span) → Some span ≡ span_by layer kind n → mark_of layer kind n ≡ Some (marked.Span span)
span_mark layer letter.Text n span e = ap (option_map marked.Span) (sym e)
span_mark layer letter.Event n span e = absurd (none_some (sym e))
span_mark layer letter.Relation n span e = absurd (none_some (sym e))
span_mark layer letter.Attribute n span e = absurd (none_some (sym e))
span_mark layer letter.Legacy n span e = absurd (none_some (sym e))
span_mark layer letter.Normal n span e = absurd (none_some (sym e))
span_mark layer letter.Note n span e = absurd (none_some (sym e))

-- ---- a mark of another sort makes no pair

-- a mark makes no pair with any
abbrev pub Alone : (Mark → Mark → Bool) → Mark → Type 0
Alone pairs mark = (other : Mark) → pairs mark other ≡ false

made_alone : {X : Type 0} (pairs : Mark → Mark → Bool) (make : X → Mark) → ((x : X) → Alone pairs (make x)) → (o : Option X) (mark : Mark) → option_map make o ≡ Some mark → Alone pairs mark
made_alone pairs make alone None mark e = absurd (none_some e)
made_alone pairs make alone (Some x) mark e = subst (Alone pairs) (same_some e) (alone x)

alone_pairs : (pairs : Mark → Mark → Bool) (layer : Annotations) (id : AnnId) → ((mark : Mark) → mark_at layer id ≡ Some mark → Alone pairs mark) → other_pair pairs layer id ≡ None
alone_pairs pairs layer id alone = split (mark_at layer id) refl
  where
    untrue : (mark : Mark) → Alone pairs mark → (o : Option Mark) → option_map_or (pairs mark) o false ≡ false
    untrue mark so None = refl
    untrue mark so (Some other) = so other

    split : (o : Option Mark) → mark_at layer id ≡ o → option_and_then (λ mark. find (other_than pairs layer id mark) (ids_of layer)) o ≡ None
    split None is = refl
    split (Some mark) is =
        found_nowhere (other_than pairs layer id mark) (ids_of layer)
        (λ other. ap (λ b. not (is_id id other) && b) (untrue mark (alone mark is) (mark_at layer other)) ∙ with_false (not (is_id id other)))

no_span : (layer : Annotations) (kind : Kind) (n : ℕ) → None ≡ span_by layer kind n → (mark : Mark) → mark_of layer kind n ≡ Some mark → Alone same_spans mark
no_span layer letter.Text n none mark e = absurd (none_some (ap (option_map marked.Span) none ∙ e))
no_span layer letter.Event n none mark e = made_alone same_spans marked.Event (λ x m. refl) (finite.get layer.events n) mark e
no_span layer letter.Relation n none mark e = made_alone same_spans marked.Relation (λ x m. refl) (finite.get layer.relations n) mark e
no_span layer letter.Attribute n none mark e = made_alone same_spans marked.Attribute (λ x m. refl) (finite.get layer.attributes n) mark e
no_span layer letter.Legacy n none mark e = made_alone same_spans marked.Attribute (λ x m. refl) (finite.get layer.legacy n) mark e
no_span layer letter.Normal n none mark e = made_alone same_spans marked.Normal (λ x m. refl) (finite.get layer.normals n) mark e
no_span layer letter.Note n none mark e = made_alone same_spans marked.Note (λ x m. refl) (finite.get layer.notes n) mark e

no_event : (layer : Annotations) (kind : Kind) (n : ℕ) → None ≡ event_by layer kind n → (mark : Mark) → mark_of layer kind n ≡ Some mark → Alone same_events mark
no_event layer letter.Event n none mark e = absurd (none_some (ap (option_map marked.Event) none ∙ e))
no_event layer letter.Text n none mark e = made_alone same_events marked.Span (λ x m. refl) (finite.get layer.spans n) mark e
no_event layer letter.Relation n none mark e = made_alone same_events marked.Relation (λ x m. refl) (finite.get layer.relations n) mark e
no_event layer letter.Attribute n none mark e = made_alone same_events marked.Attribute (λ x m. refl) (finite.get layer.attributes n) mark e
no_event layer letter.Legacy n none mark e = made_alone same_events marked.Attribute (λ x m. refl) (finite.get layer.legacy n) mark e
no_event layer letter.Normal n none mark e = made_alone same_events marked.Normal (λ x m. refl) (finite.get layer.normals n) mark e
no_event layer letter.Note n none mark e = made_alone same_events marked.Note (λ x m. refl) (finite.get layer.notes n) mark e

no_relation : (layer : Annotations) (kind : Kind) (n : ℕ) → None ≡ relation_by layer kind n → (mark : Mark) → mark_of layer kind n ≡ Some mark → Alone same_relations mark
no_relation layer letter.Relation n none mark e = absurd (none_some (ap (option_map marked.Relation) none ∙ e))
no_relation layer letter.Text n none mark e = made_alone same_relations marked.Span (λ x m. refl) (finite.get layer.spans n) mark e
no_relation layer letter.Event n none mark e = made_alone same_relations marked.Event (λ x m. refl) (finite.get layer.events n) mark e
no_relation layer letter.Attribute n none mark e = made_alone same_relations marked.Attribute (λ x m. refl) (finite.get layer.attributes n) mark e
no_relation layer letter.Legacy n none mark e = made_alone same_relations marked.Attribute (λ x m. refl) (finite.get layer.legacy n) mark e
no_relation layer letter.Normal n none mark e = made_alone same_relations marked.Normal (λ x m. refl) (finite.get layer.normals n) mark e
no_relation layer letter.Note n none mark e = made_alone same_relations marked.Note (λ x m. refl) (finite.get layer.notes n) mark e

no_attribute : (layer : Annotations) (kind : Kind) (n : ℕ) → None ≡ attribute_of layer kind n → (mark : Mark) → mark_of layer kind n ≡ Some mark → Alone same_attributes mark
no_attribute layer letter.Attribute n none mark e = absurd (none_some (ap (option_map marked.Attribute) none ∙ e))
no_attribute layer letter.Legacy n none mark e = absurd (none_some (ap (option_map marked.Attribute) none ∙ e))
no_attribute layer letter.Text n none mark e = made_alone same_attributes marked.Span (λ x m. refl) (finite.get layer.spans n) mark e
no_attribute layer letter.Event n none mark e = made_alone same_attributes marked.Event (λ x m. refl) (finite.get layer.events n) mark e
no_attribute layer letter.Relation n none mark e = made_alone same_attributes marked.Relation (λ x m. refl) (finite.get layer.relations n) mark e
no_attribute layer letter.Normal n none mark e = made_alone same_attributes marked.Normal (λ x m. refl) (finite.get layer.normals n) mark e
no_attribute layer letter.Note n none mark e = made_alone same_attributes marked.Note (λ x m. refl) (finite.get layer.notes n) mark e

pub span_alone : (layer : Annotations) (id : AnnId) → None ≡ span_of layer id → other_pair same_spans layer id ≡ None
span_alone layer id none = alone_pairs same_spans layer id (no_span layer id.kind id.number none)

pub event_alone : (layer : Annotations) (id : AnnId) → None ≡ event_of layer id → other_pair same_events layer id ≡ None
event_alone layer id none = alone_pairs same_events layer id (no_event layer id.kind id.number none)

pub relation_alone : (layer : Annotations) (id : AnnId) → None ≡ relation_of layer id → other_pair same_relations layer id ≡ None
relation_alone layer id none = alone_pairs same_relations layer id (no_relation layer id.kind id.number none)

pub attribute_alone : (layer : Annotations) (id : AnnId) → None ≡ attribute_at layer id → other_pair same_attributes layer id ≡ None
attribute_alone layer id none = alone_pairs same_attributes layer id (no_attribute layer id.kind id.number none)

-- ---- a look among those that name a third

pub among_namers : (pairs : Mark → Mark → Bool) (layer : Annotations) (id named : AnnId) → PairsName pairs layer id named
    → option_and_then (λ mark. find (other_than pairs layer id mark) (namers_but (Some id) layer named)) (mark_at layer id) ≡ other_pair pairs layer id
among_namers pairs layer id named all = split (mark_at layer id) refl
  where
    unnamed : (mark other : Mark) → mark_at layer id ≡ Some mark → list_any (is_id named) (named_by other) ≡ false → (b : Bool) → pairs mark other ≡ b → b ≡ false
    unnamed mark other is none false e = refl
    unnamed mark other is none true e = not_both (list_any (is_id named) (named_by other)) (all mark other is e) none

    by_mark : (mark : Mark) → mark_at layer id ≡ Some mark → (o : Option Mark) → option_map_or (λ m. list_any (is_id named) (named_by m)) o false ≡ false → option_map_or (pairs mark) o false ≡ false
    by_mark mark is None e = refl
    by_mark mark is (Some other) e = unnamed mark other is e (pairs mark other) refl

    wide : (mark : Mark) → mark_at layer id ≡ Some mark → (other : AnnId) → (b : Bool) → is_id id other ≡ b → (not (is_id id other) && names_it layer named other) ≡ false
        → (not (is_id id other) && option_map_or (pairs mark) (mark_at layer other) false) ≡ false
    wide mark is other true same e = ap (λ b. not b && option_map_or (pairs mark) (mark_at layer other) false) same
    wide mark is other false apart e =
        ap (λ b. not (is_id id other) && b) (by_mark mark is (mark_at layer other) (sym (ap (λ b. not b && names_it layer named other) apart) ∙ e)) ∙ with_false (not (is_id id other))

    split : (o : Option Mark) → mark_at layer id ≡ o
        → option_and_then (λ mark. find (other_than pairs layer id mark) (namers_but (Some id) layer named)) o ≡ option_and_then (λ mark. find (other_than pairs layer id mark) (ids_of layer)) o
    split None is = refl
    split (Some mark) is =
        find_kept (other_than pairs layer id mark) (λ other. not (is_but (Some id) other) && names_it layer named other) (ids_of layer) (λ other e. wide mark is other (is_id id other) refl e)
