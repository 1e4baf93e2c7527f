-- The curated layer: the items that are in, numbered anew, and the unanimous classes whose members are all in. It is a
-- function of the layers and of which items are in.
use Rattle.std.specs.Prelude.{ℕ, ◌+◌, ◌==◌, List, [], ◌∷◌, ◌++◌, map, count_by, filter_map, fold, slice_get, Option, Some, None, if◌then◌else◌, option_map, option_and_then, unwrap_or}
use Rattle.mark_base.specs.declared.ann_id.AnnId.{AnnId}
use Rattle.mark_base.specs.declared.ann_id.Kind.{Kind}
use Rattle.mark_base.specs.declared.ann_id.Kind.TheVariants as letter
use Rattle.mark_base.specs.declared.arguments.Arg.{Arg}
use Rattle.mark_base.specs.ReadIds.{id_at}
use Rattle.layer_model.specs.declared.class.Class.{Class}
use Rattle.layer_model.specs.declared.event.Event.{Event}
use Rattle.layer_model.specs.declared.mark.Mark.{Mark}
use Rattle.layer_model.specs.declared.mark.Mark.TheVariants as marked
use Rattle.layer_model.specs.Annotations.{Annotations, no_marks}
use Rattle.layer_model.specs.Classes.{joined, letter_place}
use Rattle.layer_model.specs.Coherent.{trigger_id}
use Rattle.layer_model.specs.Layers.{with_classes, with_mark}
use Rattle.unanimous_merge.specs.Items.{Held}
use Rattle.unanimous_merge.specs.Readings.{Reading, content_under}
use Rattle.unanimous_merge.specs.Unanimous.{unanimous_classes}
use Rattle.curator_decisions.specs.Decisions.{Decided, items_in}

-- ---- new numbers

-- the letter under which a curated layer has an annotation: A stands for M
abbrev pub curated_letter : Kind → Kind
curated_letter letter.Legacy = letter.Attribute
curated_letter kind = kind

-- the letter of an item in a curated layer
abbrev pub letter_of_item : Held → Kind
letter_of_item held = curated_letter held.id.kind

-- how many of these have the letter
abbrev pub count_of_letter : Kind → List Held → ℕ
count_of_letter kind helds = count_by (λ held. letter_place (letter_of_item held) == letter_place kind) helds

-- an item and its ID in a curated layer
pub record Numbered : Type 0 where
  pub held : Held
  pub id : AnnId

-- items numbered behind others: each letter from 1, in the order of the items
abbrev pub numbered_behind : List Held → List Held → List Numbered
numbered_behind before [] = []
numbered_behind before (held ∷ others) =
    record { held = held; id = id_at (letter_of_item held) (count_of_letter (letter_of_item held) before + 1) } ∷ numbered_behind (before ++ held ∷ []) others

-- the items that are in, each with its ID
abbrev pub numbered : List Reading → Decided → List Numbered
numbered layers decided = numbered_behind [] (items_in layers decided)

-- the ID of the item of a content
abbrev pub new_id : List Numbered → ℕ → Option AnnId
new_id [] content = None
new_id (one ∷ others) content = if one.held.content == content then Some one.id else new_id others content

-- ---- marks with the new IDs

-- an argument with another ID
abbrev pub renamed_arg : (AnnId → AnnId) → Arg → Arg
renamed_arg rename arg = record arg { target = rename arg.target }

-- an event with other IDs
abbrev pub renamed_event : (AnnId → AnnId) → Event → Event
renamed_event rename event =
    record { kind = event.kind; trigger = (rename (trigger_id event)).number; args = map (renamed_arg rename) event.args; within = (rename (trigger_id event)).within }

-- a mark with other IDs in place of those that it names
abbrev pub renamed : (AnnId → AnnId) → Mark → Mark
renamed rename (marked.Span span) = marked.Span span
renamed rename (marked.Event event) = marked.Event (renamed_event rename event)
renamed rename (marked.Relation relation) = marked.Relation (record relation { first = rename relation.first; second = rename relation.second })
renamed rename (marked.Attribute attribute) = marked.Attribute (record attribute { target = rename attribute.target })
renamed rename (marked.Normal normal) = marked.Normal (record normal { target = rename normal.target })
renamed rename (marked.Note note) = marked.Note (record note { target = rename note.target })

-- the ID of the item of the content of an ID; an ID whose content is not in stays as it is
abbrev pub rename_in : Reading → List Numbered → AnnId → AnnId
rename_in layer items id = unwrap_or (new_id items (content_under layer id)) id

-- the annotation that a curated layer has of an item: that of its holder's layer, with the new IDs
abbrev pub taken : List Reading → List Numbered → Numbered → Option (AnnId × Mark)
taken layers items one =
    option_and_then (λ layer. option_map (λ mark. (one.id, renamed (rename_in layer items) mark)) (layer.mark one.held.id)) (slice_get layers one.held.holder)

-- the IDs of the members of a class, where all are in
abbrev pub all_new : (AnnId → Option AnnId) → List AnnId → Option (List AnnId)
all_new new [] = Some []
all_new new (id ∷ ids) = option_and_then (λ first. option_map (λ others. first ∷ others) (all_new new ids)) (new id)

-- a class with the new IDs, where all its members are in
abbrev pub class_taken : Reading → List Numbered → Class → Option Class
class_taken layer items class = option_map (λ members. record { kind = class.kind; members = members }) (all_new (λ id. new_id items (content_under layer id)) class.members)

-- the classes of the first layer that are unanimous and whose members are all in
abbrev pub classes_taken : List Reading → List Numbered → List Class
classes_taken [] items = []
classes_taken (first ∷ others) items = filter_map (class_taken first items) (unanimous_classes (first ∷ others))

-- ---- the layer

-- annotations and classes as they are put into a layer
pub record Taken : Type 0 where
  pub marks : List (AnnId × Mark)
  pub classes : List Class

-- what a curated layer has
abbrev pub curated_of : List Reading → Decided → Taken
curated_of layers decided =
    record { marks = filter_map (taken layers (numbered layers decided)) (numbered layers decided); classes = classes_taken layers (numbered layers decided) }

-- the layer of annotations and classes
abbrev pub layer_of : Taken → Annotations
layer_of all =
    with_classes (fold (λ layer entry. with_mark layer entry.0 entry.1) no_marks all.marks) (fold (λ classes class. joined class.kind class.members classes) [] all.classes)

-- the curated layer of layers and decisions
abbrev pub curated : List Reading → Decided → Annotations
curated layers decided = layer_of (curated_of layers decided)
