-- The layer that a command makes, where its names are declared.
use Rattle.std.specs.Prelude.{ℕ, ◌+◌, ◌==◌, ◌||◌, ◌&&◌, Bool, true, false, not, List, [], ◌∷◌, ◌++◌, zero, suc, length, map, bytes_eq, Option, Some, None, is_some, option_map, option_and_then, find, filter, unwrap_or, if◌then◌else◌}
use Rattle.std.specs.Option.{option_map_or}
use Rattle.std.specs.List.{list_any, range_with_len}
use Rattle.std.specs.FinMap as finite
use Rattle.mark_base.specs.declared.ann_id.AnnId.{AnnId}
use Rattle.mark_base.specs.declared.ann_id.Kind.{Kind}
use Rattle.mark_base.specs.declared.ann_id.Kind.TheVariants as letter
use Rattle.mark_base.specs.declared.table_places.AttrId.{AttrId}
use Rattle.mark_base.specs.declared.arguments.Arg.{Arg}
use Rattle.type_hierarchy.specs.TypeTrees.{type_named}
use Rattle.conf_model.specs.Configurations.{Configuration}
use Rattle.conf_model.specs.Lookups.{relation_named, attribute_named}
use Rattle.layer_model.specs.declared.mark.Mark.{Mark}
use Rattle.layer_model.specs.declared.mark.Mark.TheVariants.{Span, Event, Relation, Attribute, Normal, Note}
use Rattle.layer_model.specs.declared.span.Span as span_record
use Rattle.layer_model.specs.declared.event.Event as event_record
use Rattle.layer_model.specs.declared.relation.Relation as relation_record
use Rattle.layer_model.specs.declared.class.Class.{Class}
use Rattle.layer_model.specs.Annotations.{Annotations}
use Rattle.layer_model.specs.Layers.{count, mark_at, with_mark, without, has_number, greatest}
use Rattle.layer_model.specs.Classes.{joined, parted}
use Rattle.layer_core.specs.declared.command.Command.{Command}
use Rattle.layer_core.specs.declared.command.Command.TheVariants as ask
use Rattle.mark_base.specs.ReadIds.{id_at}
use Rattle.layer_model.specs.LayerIds.{ids_of, ids_of_letter}
use Rattle.layer_rules.specs.MarkRules.{named_by}
use Rattle.layer_rules.specs.LayerRules.{is_id, is_arg}
use Rattle.layer_core.specs.CommandRules.{event_named, is_span_letter, is_event_letter, is_relation_letter, first_naming, is_in_trigger, args_named, arg_named, attribute_on}
use Rattle.layer_rules.specs.AttributeValues.{Valued, Undeclared, Declared, value_of}

-- a layer that a command makes, the annotation that is new or changed in it, and whether it is new
pub record Draft : Type 0 where
  pub layer : Annotations
  pub changed : Option AnnId
  pub is_new : Bool

-- the lowest number of a letter from 1 on that no annotation has; one of the first numbers is free, as many as there are annotations and one
abbrev pub free_number : Annotations → Kind → ℕ
free_number layer kind = unwrap_or (find (λ number. not (has_number layer kind number)) (range_with_len 1 (count layer kind + 1))) 0

-- the number of a new annotation of a letter: the greatest and one more, or 1; where the greatest number is taken the lowest that is free, though the command is then refused
abbrev pub new_number : Annotations → Kind → ℕ
new_number layer kind =
    option_map_or (λ number. if number == 999999999 then free_number layer kind else number + 1) (greatest layer kind) 1

-- a new annotation
abbrev pub with_new : Annotations → Kind → Mark → Draft
with_new layer kind mark = let id = id_at kind (new_number layer kind) in record { layer = with_mark layer id mark; changed = Some id; is_new = true }

-- another annotation under an ID that is there
abbrev pub with_changed : Annotations → AnnId → Mark → Draft
with_changed layer id mark = record { layer = with_mark layer id mark; changed = Some id; is_new = false }

-- a layer in which no annotation is new or changed
abbrev pub with_less : Annotations → Draft
with_less layer = record { layer = layer; changed = None; is_new = false }

-- the span of an ID
abbrev pub span_of : Annotations → AnnId → Option span_record.Span
span_of layer id = if is_span_letter id.kind then finite.get layer.spans id.number else None

-- the event of an ID
abbrev pub event_of : Annotations → AnnId → Option event_record.Event
event_of layer id = if is_event_letter id.kind then finite.get layer.events id.number else None

-- the relation of an ID
abbrev pub relation_of : Annotations → AnnId → Option relation_record.Relation
relation_of layer id = if is_relation_letter id.kind then finite.get layer.relations id.number else None

-- arguments without the first that is another
abbrev pub without_first : Arg → List Arg → List Arg
without_first wanted [] = []
without_first wanted (arg ∷ args) = if is_arg wanted arg then args else arg ∷ without_first wanted args

-- the event with other arguments
abbrev pub with_args : Annotations → AnnId → event_record.Event → List Arg → Draft
with_args layer id event args = with_changed layer id (Event (record event { args = args }))

-- a new attribute, or another value in the lowest of its type on the target
abbrev pub with_attribute : Annotations → AttrId → AnnId → Option ℕ → Draft
with_attribute layer kind target value =
    let mark = Attribute (record { kind = kind; target = target; value = value }) in
    option_map_or (λ id. with_changed layer id mark) (attribute_on layer kind.n target) (with_new layer letter.Attribute mark)

-- a note of a type on a target
abbrev pub is_note_on : List ℕ → AnnId → Mark → Bool
is_note_on kind target (Note note) = bytes_eq note.kind kind && is_id note.target target
is_note_on kind target _ = false

-- a reference of a target to an entry of a store
abbrev pub is_reference_to : AnnId → List ℕ → List ℕ → Mark → Bool
is_reference_to target store entry (Normal normal) = is_id normal.target target && bytes_eq normal.store store && bytes_eq normal.entry entry
is_reference_to target store entry _ = false

-- the lowest ID of a letter whose mark passes a test
abbrev pub lowest : (Mark → Bool) → Annotations → Kind → Option AnnId
lowest test layer kind = find (λ id. option_map_or test (mark_at layer id) false) (ids_of_letter layer kind)

-- another text in the lowest mark that passes a test, or a new one
abbrev pub with_text : (Mark → Bool) → Annotations → Kind → Mark → Draft
with_text test layer kind mark = option_map_or (λ id. with_changed layer id mark) (lowest test layer kind) (with_new layer kind mark)

-- an annotation falls with another where it is that one, or names one that falls with it, over at most so many steps
abbrev pub falls_by : ℕ → Annotations → AnnId → AnnId → Bool
falls_by zero layer gone id = is_id gone id
falls_by (suc steps) layer gone id = is_id gone id || option_map_or (λ mark. list_any (falls_by steps layer gone) (named_by mark)) (mark_at layer id) false

-- an annotation falls with another: a way from name to name has at most as many steps as there are annotations
abbrev pub falls : Annotations → AnnId → AnnId → Bool
falls layer gone id = falls_by (length (ids_of layer)) layer gone id

-- an ID taken out of the classes of some relation types
abbrev pub parted_from : AnnId → List Class → List ℕ → List Class
parted_from id classes [] = classes
parted_from id classes (kind ∷ kinds) = parted_from id (parted kind id classes) kinds

-- the layer without an annotation, in no class either
abbrev pub gone : Annotations → AnnId → Annotations
gone layer id = let less = without layer id in record less { classes = parted_from id less.classes (map (λ class. class.kind.n) less.classes) }

-- the layer without some annotations
abbrev pub without_all : Annotations → List AnnId → Annotations
without_all layer [] = layer
without_all layer (id ∷ ids) = without_all (gone layer id) ids

-- the draft that a value makes, where it is declared
abbrev pub valued_draft : Valued → (Option ℕ → Draft) → Option Draft
valued_draft Undeclared make = None
valued_draft (Declared value) make = Some (make value)

-- the layer that a command makes, where its names are declared and its IDs lead to what it changes
abbrev pub draft : Configuration → Annotations → Command → Option Draft
draft conf layer (ask.AddSpan kind frags) = option_map (λ id. with_new layer letter.Text (Span (record { kind = id; frags = frags }))) (type_named conf.types kind)
draft conf layer (ask.RetypeSpan id kind) =
    if is_in_trigger layer id then None
    else option_and_then (λ type_. option_map (λ span. with_changed layer id (Span (record { kind = type_; frags = span.frags }))) (span_of layer id)) (type_named conf.types kind)
draft conf layer (ask.MoveSpan id frags) = option_map (λ span. with_changed layer id (Span (record { kind = span.kind; frags = frags }))) (span_of layer id)
draft conf layer (ask.AddEvent kind trigger args) =
    if is_span_letter trigger.kind
    then option_and_then (λ type_. option_map (λ placed. with_new layer letter.Event (Event (record { kind = type_; trigger = trigger.number; args = placed; within = trigger.within }))) (args_named conf type_ args)) (event_named conf kind)
    else None
draft conf layer (ask.AddArg id arg) =
    option_and_then (λ event. option_map (λ placed. with_args layer id event (event.args ++ placed ∷ [])) (arg_named conf event.kind arg)) (event_of layer id)
draft conf layer (ask.RemoveArg id arg) =
    option_and_then (λ event. option_map (λ placed. with_args layer id event (without_first placed event.args)) (arg_named conf event.kind arg)) (event_of layer id)
draft conf layer (ask.AddRelation kind first second) =
    option_map (λ place. with_new layer letter.Relation (Relation (record { kind = record { n = place }; first = first; second = second }))) (relation_named conf kind)
draft conf layer (ask.SetAttribute kind target value) =
    option_and_then (λ place. valued_draft (value_of conf place value) (with_attribute layer (record { n = place }) target)) (attribute_named conf kind)
draft conf layer (ask.ClearAttribute id) = if is_some (first_naming layer id) then None else Some (with_less (gone layer id))
draft conf layer (ask.Equate kind members) =
    if length members == 0 then None
    else option_map (λ place. with_less (record layer { classes = joined (record { n = place }) members layer.classes })) (relation_named conf kind)
draft conf layer (ask.Unequate kind id) = option_map (λ place. with_less (record layer { classes = parted place id layer.classes })) (relation_named conf kind)
draft conf layer (ask.SetNote target kind text) = Some (with_text (is_note_on kind target) layer letter.Note (Note (record { kind = kind; target = target; text = text })))
draft conf layer (ask.SetReference target store entry text) =
    Some (with_text (is_reference_to target store entry) layer letter.Normal (Normal (record { target = target; store = store; entry = entry; text = text })))
draft conf layer (ask.Delete id) = if is_some (first_naming layer id) then None else Some (with_less (gone layer id))
draft conf layer (ask.Purge id) = Some (with_less (without_all layer (filter (falls layer id) (ids_of layer))))
draft conf layer (ask.Load loaded) = Some (with_less loaded)
