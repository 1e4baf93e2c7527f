-- Rules that speak of two annotations, of a chain of events, of a whole class, or of how many there are.
use Rattle.std.specs.Prelude.{ℕ, ◌==◌, ◌||◌, ◌&&◌, Bool, true, false, not, List, [], ◌∷◌, ◌++◌, zero, suc, length, nat_lt, Option, Some, None, option_map, find, count_by, slice_get}
use Rattle.std.specs.Option.{option_map_or}
use Rattle.std.specs.List.{list_any, list_all}
use Rattle.std.specs.FinMap as finite
use Rattle.mark_base.specs.declared.ann_id.AnnId.{AnnId}
use Rattle.mark_base.specs.declared.ann_id.Kind.{Kind}
use Rattle.mark_base.specs.declared.ann_id.Kind.TheVariants as letter
use Rattle.mark_base.specs.declared.table_places.TypeId.{TypeId}
use Rattle.mark_base.specs.declared.arguments.Arg.{Arg}
use Rattle.conf_model.specs.Configurations.{Configuration}
use Rattle.conf_model.specs.Lookups.{relation_admits, overlap_allowed}
use Rattle.overlap_rules.specs.Overlaps.{kind_of}
use Rattle.layer_model.specs.declared.mark.Mark.{Mark}
use Rattle.layer_model.specs.declared.mark.Mark.TheVariants.{Span, Event, Relation, Attribute, Normal, Note}
use Rattle.layer_model.specs.declared.class.Class.{Class}
use Rattle.layer_model.specs.declared.rule.Rule.{Rule}
use Rattle.layer_model.specs.declared.rule.Rule.TheVariants.{TooDeep, SameSpan, SameEvent, SameRelation, AttributeThere, EquivMembers, OverlapRefused, BadText, LayerFull}
use Rattle.layer_model.specs.Span.{same_fragments}
use Rattle.layer_model.specs.Annotations.{Annotations}
use Rattle.layer_model.specs.Layers.{mark_at}
use Rattle.layer_model.specs.LayerIds.{id_place, ids_of, ids_of_letter}
use Rattle.layer_rules.specs.Targets.{type_of}
use Rattle.layer_rules.specs.BadTexts.{is_bad_text, is_bad_entry, is_bad_store}
use Rattle.layer_rules.specs.MarkRules.{where_so}

-- the same ID
abbrev pub is_id : AnnId → AnnId → Bool
is_id a b = id_place a == id_place b

-- the same role and target
abbrev pub is_arg : Arg → Arg → Bool
is_arg a b = a.role == b.role && is_id a.target b.target

-- the same arguments in any order: each as often in one as in the other
abbrev pub same_bag : List Arg → List Arg → Bool
same_bag a b = list_all (λ arg. count_by (is_arg arg) a == count_by (is_arg arg) b) (a ++ b)

-- two spans of one type and the same fragments
abbrev pub same_spans : Mark → Mark → Bool
same_spans (Span a) (Span b) = a.kind.n == b.kind.n && same_fragments a.frags b.frags
same_spans _ _ = false

-- two events of one type and trigger, with the same arguments in any order
abbrev pub same_events : Mark → Mark → Bool
same_events (Event a) (Event b) = a.kind.n == b.kind.n && a.trigger == b.trigger && same_bag a.args b.args
same_events _ _ = false

-- two relations of one type and the same arguments
abbrev pub same_relations : Mark → Mark → Bool
same_relations (Relation a) (Relation b) = a.kind.n == b.kind.n && is_id a.first b.first && is_id a.second b.second
same_relations _ _ = false

-- two attributes of one type on one target, under either letter
abbrev pub same_attributes : Mark → Mark → Bool
same_attributes (Attribute a) (Attribute b) = a.kind.n == b.kind.n && is_id a.target b.target
same_attributes _ _ = false

-- two spans, the lower one second, that overlap as the configuration does not allow
abbrev pub refused_overlap : Configuration → Mark → Mark → Bool
refused_overlap conf (Span a) (Span b) = not (overlap_allowed conf b.kind a.kind (kind_of b.frags a.frags))
refused_overlap conf _ _ = false

-- the lowest ID below another whose annotation makes a pair with the mark there
abbrev pub lower_pair : (Mark → Mark → Bool) → Annotations → AnnId → Mark → Option AnnId
lower_pair pairs layer id mark = find (λ other. nat_lt (id_place other) (id_place id) && option_map_or (pairs mark) (mark_at layer other) false) (ids_of layer)

-- an annotation makes a pair with a lower one
abbrev pub same_span : Annotations → AnnId → Mark → Option Rule
same_span layer id mark = option_map SameSpan (lower_pair same_spans layer id mark)

-- the same of events
abbrev pub same_event : Annotations → AnnId → Mark → Option Rule
same_event layer id mark = option_map SameEvent (lower_pair same_events layer id mark)

-- the same of relations
abbrev pub same_relation : Annotations → AnnId → Mark → Option Rule
same_relation layer id mark = option_map SameRelation (lower_pair same_relations layer id mark)

-- the same of attributes, of which the lower one is there already
abbrev pub attribute_there : Annotations → AnnId → Mark → Option Rule
attribute_there layer id mark = option_map AttributeThere (lower_pair same_attributes layer id mark)

-- the same of spans whose overlap is not allowed
abbrev pub overlap_refused : Configuration → Annotations → AnnId → Mark → Option Rule
overlap_refused conf layer id mark = option_map OverlapRefused (lower_pair (refused_overlap conf) layer id mark)

-- the letter of events
abbrev pub letter_is_event : Kind → Bool
letter_is_event letter.Event = true
letter_is_event _ = false

-- an ID of an event
abbrev pub is_event_id : AnnId → Bool
is_event_id id = letter_is_event id.kind

-- the event of a number begins a chain of more events than so many, each later one an argument of the one before it
unfoldable pub begins_longer_chain : Annotations → ℕ → ℕ → Bool
begins_longer_chain layer zero number = finite.contains_key layer.events number
begins_longer_chain layer (suc events) number =
    option_map_or (λ event. list_any (λ arg. is_event_id arg.target && begins_longer_chain layer events arg.target.number) event.args) (finite.get layer.events number) false

-- the event begins a chain of more than 16 events
abbrev pub too_deep : Annotations → AnnId → Mark → Option Rule
too_deep layer id (Event event) = where_so (begins_longer_chain layer 16 id.number) TooDeep
too_deep layer id mark = None

-- some line of a relation type admits two types in either order
abbrev pub may_be_equal : Configuration → ℕ → Option TypeId → Option TypeId → Bool
may_be_equal conf kind (Some a) (Some b) = relation_admits conf kind a b || relation_admits conf kind b a
may_be_equal conf kind _ _ = true

-- some ID stands twice, or no line admits the types of two of them in either order
abbrev pub are_bad_members : Configuration → Annotations → ℕ → List AnnId → Bool
are_bad_members conf layer kind [] = false
are_bad_members conf layer kind (id ∷ ids) =
    list_any (λ other. is_id id other || not (may_be_equal conf kind (type_of layer id) (type_of layer other))) ids || are_bad_members conf layer kind ids

-- members of a class: two or more, none twice, each two admitted in one order or the other
abbrev pub equiv_members : Configuration → Annotations → Class → Option Rule
equiv_members conf layer class = where_so (nat_lt (length class.members) 2 || are_bad_members conf layer class.kind.n class.members) EquivMembers

-- a text that a note or a normalization may not have
abbrev pub bad_text : Mark → Option Rule
bad_text (Normal normal) = where_so (is_bad_text normal.text || is_bad_store normal.store || is_bad_entry normal.entry) BadText
bad_text (Note note) = where_so (is_bad_text note.text) BadText
bad_text mark = None

-- the letter that stands for the sort in a count: attributes are counted under both letters together
abbrev pub counted_letter : Kind → Kind
counted_letter letter.Text = letter.Text
counted_letter letter.Event = letter.Event
counted_letter letter.Relation = letter.Relation
counted_letter letter.Attribute = letter.Attribute
counted_letter letter.Legacy = letter.Attribute
counted_letter letter.Normal = letter.Normal
counted_letter letter.Note = letter.Note

-- the IDs that are counted together with those of a letter, in their order
abbrev pub counted_with : Annotations → Kind → List AnnId
counted_with layer letter.Attribute = ids_of_letter layer letter.Attribute ++ ids_of_letter layer letter.Legacy
counted_with layer letter.Legacy = ids_of_letter layer letter.Attribute ++ ids_of_letter layer letter.Legacy
counted_with layer kind = ids_of_letter layer kind

-- the 10,001st annotation of its sort
abbrev pub layer_full : Annotations → AnnId → Mark → Option Rule
layer_full layer id mark = where_so (option_map_or (is_id id) (slice_get (counted_with layer id.kind) 10000) false) (LayerFull (counted_letter id.kind))

-- the 10,001st class
abbrev pub classes_full : ℕ → Class → Option Rule
classes_full index class = where_so (index == 10000) (LayerFull letter.Text)
