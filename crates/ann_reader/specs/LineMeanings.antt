-- What a line says under a configuration: the annotation that it spells, or the class.
use Rattle.std.specs.Prelude.{ℕ, ◌&&◌, Bool, true, false, List, map, bytes_eq, Option, Some, None, option_map, option_and_then, if◌then◌else◌, is_none}
use Rattle.std.specs.Option.{option_map_or}
use Rattle.mark_base.specs.declared.ann_id.AnnId.{AnnId}
use Rattle.mark_base.specs.declared.table_places.TypeId.{TypeId}
use Rattle.mark_base.specs.declared.arguments.Arg.{Arg}
use Rattle.mark_base.specs.declared.fragments.Frag.{Frag}
use Rattle.mark_base.specs.Names.{name_fault}
use Rattle.conf_model.specs.Configurations.{Configuration}
use Rattle.conf_model.specs.Lookups.{relation_role}
use Rattle.layer_model.specs.declared.mark.Mark.{Mark}
use Rattle.layer_model.specs.declared.mark.Mark.TheVariants.{Span, Event, Relation, Attribute, Normal, Note}
use Rattle.layer_rules.specs.AttributeValues.{Valued, Declared}
use Rattle.ann_reader.specs.Roles.{role_read}
use Rattle.ann_reader.specs.NamesRead.{type_read, event_read, relation_read, attribute_read, value_read}
use Rattle.mark_base.specs.ReadIds.{id_read}
use Rattle.ann_reader.specs.Words.{all_of}
use Rattle.ann_reader.specs.LineForms.{Pair, Form, BadForm, TextForm, EventForm, RelationForm, AttributeForm, ClassForm, NormalForm, NoteForm}

-- ---- arguments

-- an argument of a role and an ID
abbrev pub arg_by : Option ℕ → Option AnnId → Option Arg
arg_by (Some role) (Some id) = Some (record { role = role; target = id })
arg_by _ _ = None

-- the argument of a pair
abbrev pub arg_of : Configuration → TypeId → Pair → Option Arg
arg_of conf kind pair = arg_by (role_read conf kind.n pair.role) (id_read pair.target)

-- the arguments of an event
abbrev pub args_of : Configuration → TypeId → List Pair → Option (List Arg)
args_of conf kind pairs = all_of (map (arg_of conf kind) pairs)

-- the word is the name of the first or the second role of a relation type
abbrev pub is_role : Configuration → ℕ → Bool → List ℕ → Bool
is_role conf kind second word = option_map_or (λ name. bytes_eq name word) (relation_role conf kind second) false

-- the two arguments of a relation, in the order of its roles
pub record Ends : Type 0 where
  pub first : List ℕ
  pub second : List ℕ

-- the pairs may stand in either order
abbrev pub ends_of : Configuration → ℕ → Pair → Pair → Option Ends
ends_of conf kind a b =
    if is_role conf kind false a.role && is_role conf kind true b.role then Some (record { first = a.target; second = b.target })
    else if is_role conf kind true a.role && is_role conf kind false b.role then Some (record { first = b.target; second = a.target }) else None

-- ---- annotations

-- a span of a type that is declared
abbrev pub span_by : Option TypeId → List Frag → Option Mark
span_by kind frags = option_map (λ id. Span (record { kind = id; frags = frags })) kind

-- an event of a type, where its trigger and its arguments are read
abbrev pub event_by : TypeId → Option AnnId → Option (List Arg) → Option Mark
event_by kind (Some trigger) (Some args) = Some (Event (record { kind = kind; trigger = trigger.number; args = args; within = trigger.within }))
event_by kind _ _ = None

-- a relation of a type, where both arguments are read
abbrev pub relation_by : ℕ → Option AnnId → Option AnnId → Option Mark
relation_by kind (Some first) (Some second) = Some (Relation (record { kind = record { n = kind }; first = first; second = second }))
relation_by kind _ _ = None

-- an attribute of a type, where its target and its value are read
abbrev pub attribute_by : ℕ → Option AnnId → Valued → Option Mark
attribute_by kind (Some target) (Declared value) = Some (Attribute (record { kind = record { n = kind }; target = target; value = value }))
attribute_by kind _ _ = None

-- a normalization of a target that is read
abbrev pub normal_by : Option AnnId → List ℕ → List ℕ → List ℕ → Option Mark
normal_by target store entry text = option_map (λ id. Normal (record { target = id; store = store; entry = entry; text = text })) target

-- a note of a target that is read, whose type is a name
abbrev pub note_by : List ℕ → Option AnnId → List ℕ → Option Mark
note_by kind target text =
    if is_none (name_fault kind) then option_map (λ id. Note (record { kind = kind; target = id; text = text })) target else None

-- the annotation that a line spells, where each of its parts can be read
unfoldable pub mark_of : Configuration → Form → Option Mark
mark_of conf BadForm = None
mark_of conf (TextForm first kind frags text) = span_by (type_read conf kind) frags
mark_of conf (EventForm first kind trigger pairs) =
    option_and_then (λ id. event_by id (id_read trigger) (args_of conf id pairs)) (event_read conf kind)
mark_of conf (RelationForm first kind a b) =
    option_and_then (λ id. option_and_then (λ ends. relation_by id (id_read ends.first) (id_read ends.second)) (ends_of conf id a b)) (relation_read conf kind)
mark_of conf (AttributeForm first kind target value) =
    option_and_then (λ id. attribute_by id (id_read target) (value_read conf id value)) (attribute_read conf kind)
mark_of conf (ClassForm kind ids) = None
mark_of conf (NormalForm first target store entry text) = normal_by (id_read target) store entry text
mark_of conf (NoteForm first kind target text) = note_by kind (id_read target) text

-- ---- classes

-- a relation type and IDs that a line holds to be one
pub record Said : Type 0 where
  pub kind : ℕ
  pub members : List AnnId

-- by the type and the members, where both can be read
abbrev pub said_by : Option ℕ → Option (List AnnId) → Option Said
said_by (Some kind) (Some members) = Some (record { kind = kind; members = members })
said_by _ _ = None

-- what a line says of a class
abbrev pub said_of : Configuration → Form → Option Said
said_of conf (ClassForm kind ids) = said_by (relation_read conf kind) (all_of (map id_read ids))
said_of conf _ = None
