-- What an ID leads to in a layer, and what each place of an ID wants (brat standoff manual: which annotations may name which).
use Rattle.std.specs.Prelude.{ℕ, nat_eq, Bool, true, false, not, Option, None, option_map, slice_get}
use Rattle.std.specs.Option.{option_map_or}
use Rattle.std.specs.FinMap as map
use Rattle.mark_base.specs.declared.ann_id.AnnId.{AnnId}
use Rattle.mark_base.specs.declared.ann_id.Kind.{Kind}
use Rattle.mark_base.specs.declared.ann_id.Kind.TheVariants as letter
use Rattle.mark_base.specs.declared.table_places.TypeId.{TypeId}
use Rattle.conf_model.specs.declared.attr_target.AttrTarget.{AttrTarget}
use Rattle.conf_model.specs.declared.attr_target.AttrTarget.TheVariants.{Bound, Between}
use Rattle.conf_model.specs.Configurations.{Configuration}
use Rattle.layer_model.specs.Annotations.{Annotations}

-- a type is an event type
abbrev pub is_event_type : Configuration → TypeId → Bool
is_event_type conf id = option_map_or (λ row. row.event) (slice_get conf.types id.n) false

-- a type is an entity type
abbrev pub is_entity_type : Configuration → TypeId → Bool
is_entity_type conf id = option_map_or (λ row. not row.event) (slice_get conf.types id.n) false

-- the type of the annotation of a letter and a number, where it is a span or an event
abbrev pub type_by : Annotations → Kind → ℕ → Option TypeId
type_by layer letter.Text number = option_map (λ span. span.kind) (map.get layer.spans number)
type_by layer letter.Event number = option_map (λ event. event.kind) (map.get layer.events number)
type_by layer _ number = None

-- the type of a span or of an event, by its ID
abbrev pub type_of : Annotations → AnnId → Option TypeId
type_of layer id = type_by layer id.kind id.number

-- what an attribute is set on: an annotation of a type, or a relation
abbrev pub target_by : Annotations → Kind → ℕ → Option AttrTarget
target_by layer letter.Relation number = option_map (λ relation. Between relation.kind) (map.get layer.relations number)
target_by layer letter number = option_map Bound (type_by layer letter number)

-- the same by an ID
abbrev pub target_of : Annotations → AnnId → Option AttrTarget
target_of layer id = target_by layer id.kind id.number

-- the same type
abbrev pub is_type : TypeId → TypeId → Bool
is_type a b = nat_eq a.n b.n

-- a trigger is a span of the event's type
abbrev pub is_trigger : TypeId → Kind → Option TypeId → Bool
is_trigger event letter.Text type_ = option_map_or (is_type event) type_ true
is_trigger event _ type_ = false

-- an argument of an event or a relation is a span of an entity type, or an event
abbrev pub is_argument : Configuration → Kind → Option TypeId → Bool
is_argument conf letter.Text type_ = option_map_or (is_entity_type conf) type_ true
is_argument conf letter.Event type_ = true
is_argument conf _ type_ = false

-- an attribute is set on a span of an entity type, an event or a relation
abbrev pub is_attribute_target : Configuration → Kind → Option TypeId → Bool
is_attribute_target conf letter.Relation type_ = true
is_attribute_target conf letter type_ = is_argument conf letter type_

-- a normalization is of a span or an event
abbrev pub is_normal_target : Kind → Bool
is_normal_target letter.Text = true
is_normal_target letter.Event = true
is_normal_target _ = false

-- a note is on anything but a note
abbrev pub is_note_target : Kind → Bool
is_note_target letter.Note = false
is_note_target _ = true

-- a member of a class is a span of an entity type
abbrev pub is_member : Configuration → Kind → Option TypeId → Bool
is_member conf letter.Text type_ = option_map_or (is_entity_type conf) type_ true
is_member conf _ type_ = false
