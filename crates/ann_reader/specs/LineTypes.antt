-- The types that a line names, each in the table that the line needs (private calls only).
use Rattle.std.specs.Prelude.{◌≡◌, ℕ, Option, None, option_map}
use Rattle.mark_base.specs.declared.table_places.TypeId.{TypeId}
use Rattle.conf_model.specs.Configurations.{Configuration}
use Rattle.ann_reader.specs.declared.declared_names.LineTypes.{LineTypes}
use Rattle.ann_reader.specs.LineForms.{Form, TextForm, EventForm, RelationForm, AttributeForm, ClassForm}
use Rattle.ann_reader.specs.NamesRead.{type_read, event_read, relation_read, attribute_read}

-- of a span, or the event type of an event
abbrev pub marked_type : Configuration → Form → Option TypeId
marked_type conf (TextForm _ kind _ _) = type_read conf kind
marked_type conf (EventForm _ kind _ _) = event_read conf kind
marked_type conf _ = None

-- of a relation, or of a class
abbrev pub related_type : Configuration → Form → Option ℕ
related_type conf (RelationForm _ kind _ _) = relation_read conf kind
related_type conf (ClassForm kind _) = relation_read conf kind
related_type conf _ = None

-- of an attribute
abbrev pub attributed_type : Configuration → Form → Option ℕ
attributed_type conf (AttributeForm _ kind _ _) = attribute_read conf kind
attributed_type conf _ = None

-- these are the types of a line
pub record HasTypes (conf : Configuration) (form : Form) (types : LineTypes) : Type 0 where
  pub marked : types.marked ≡ marked_type conf form
  pub related : option_map (λ relation. relation.n) types.related ≡ related_type conf form
  pub attributed : option_map (λ attribute. attribute.n) types.attributed ≡ attributed_type conf form
