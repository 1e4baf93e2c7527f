-- What breaks a rule at one place of a layer, and what the rule then carries.
use Rattle.std.specs.Prelude.{ℕ, ◌==◌, Bool, false, not, List, [], ◌∷◌, length, map, nat_lt, nat_le, Option, Some, None, is_none, option_map, slice_get, find, count_by, if◌then◌else◌}
use Rattle.std.specs.Option.{option_map_or}
use Rattle.std.specs.List.{list_any, range_with_len}
use Rattle.mark_base.specs.declared.ann_id.AnnId.{AnnId}
use Rattle.mark_base.specs.declared.ann_id.Kind.TheVariants as letter
use Rattle.mark_base.specs.declared.table_places.TypeId.{TypeId}
use Rattle.mark_base.specs.declared.arguments.Arg.{Arg}
use Rattle.conf_model.specs.Configurations.{Configuration}
use Rattle.conf_model.specs.Lookups.{is_equivalence, relation_admits, relation_admits_first, roles_of, role_admits, role_most, values_of, attribute_admits}
use Rattle.overlap_rules.specs.Overlaps.{last_end, reach}
use Rattle.layer_model.specs.declared.mark.Mark.{Mark}
use Rattle.layer_model.specs.declared.mark.Mark.TheVariants.{Span, Event, Relation, Attribute, Normal, Note}
use Rattle.layer_model.specs.declared.class.Class.{Class}
use Rattle.layer_model.specs.declared.rule.Rule.{Rule}
use Rattle.layer_model.specs.declared.rule.Rule.TheVariants.{UnknownType, NotForUse, BadFragments, OutOfText, SpanTooLong, NoSuch, WrongKind, UnknownRole, ArgumentType, TooMany, UnknownValue}
use Rattle.layer_model.specs.declared.rule.RoleAt.TheVariants as role
use Rattle.layer_model.specs.Annotations.{Annotations}
use Rattle.layer_model.specs.Layers.{has}
use Rattle.mark_base.specs.ReadIds.{id_at}
use Rattle.layer_rules.specs.Targets.{is_event_type, is_trigger, is_argument, is_attribute_target, is_normal_target, is_note_target, is_member, type_of, target_of}
use Rattle.layer_rules.specs.BadTexts.{are_fragments}

-- a rule where a test is met
abbrev pub where_so : Bool → Rule → Option Rule
where_so so broken = if so then Some broken else None

-- the type is not in the table that the annotation needs: of all types for a span, of event types for an event
abbrev pub unknown_type : Configuration → Mark → Option Rule
unknown_type conf (Span span) = where_so (is_none (slice_get conf.types span.kind.n)) UnknownType
unknown_type conf (Event event) = where_so (not (is_event_type conf event.kind)) UnknownType
unknown_type conf (Relation relation) = where_so (is_none (slice_get conf.relations relation.kind.n)) UnknownType
unknown_type conf (Attribute attribute) = where_so (is_none (slice_get conf.attributes attribute.kind.n)) UnknownType
unknown_type conf (Normal normal) = None
unknown_type conf (Note note) = None

-- the same of a class
abbrev pub unknown_class : Configuration → Class → Option Rule
unknown_class conf class = where_so (is_none (slice_get conf.relations class.kind.n)) UnknownType

-- annotations may not have the type
abbrev pub is_barred_type : Configuration → TypeId → Bool
is_barred_type conf id = option_map_or (λ row. not row.usable) (slice_get conf.types id.n) false

-- the type only orders others, or is an equivalence, whose members form classes
abbrev pub not_for_use : Configuration → Mark → Option Rule
not_for_use conf (Span span) = where_so (is_barred_type conf span.kind) NotForUse
not_for_use conf (Event event) = where_so (is_barred_type conf event.kind) NotForUse
not_for_use conf (Relation relation) = where_so (is_equivalence conf relation.kind.n) NotForUse
not_for_use conf (Attribute attribute) = None
not_for_use conf (Normal normal) = None
not_for_use conf (Note note) = None

-- a class of a relation type that is no equivalence
abbrev pub class_not_for_use : Configuration → Class → Option Rule
class_not_for_use conf class = where_so (not (is_equivalence conf class.kind.n)) NotForUse

-- no fragment, an empty one, or one that ends above the next start
abbrev pub bad_fragments : Mark → Option Rule
bad_fragments (Span span) = where_so (not (are_fragments span.frags)) BadFragments
bad_fragments mark = None

-- the last fragment ends behind the text, which has so many characters
abbrev pub out_of_text : ℕ → Mark → Option Rule
out_of_text characters (Span span) = where_so (nat_lt characters (last_end 0 span.frags)) OutOfText
out_of_text characters mark = None

-- the span reaches over more than 10,000 characters
abbrev pub span_too_long : Mark → Option Rule
span_too_long (Span span) = where_so (nat_lt 10000 (reach span.frags)) SpanTooLong
span_too_long mark = None

-- the IDs that an annotation names, in the order of its fields
abbrev pub named_by : Mark → List AnnId
named_by (Span span) = []
named_by (Event event) = id_at letter.Text event.trigger ∷ map (λ arg. arg.target) event.args
named_by (Relation relation) = relation.first ∷ relation.second ∷ []
named_by (Attribute attribute) = attribute.target ∷ []
named_by (Normal normal) = normal.target ∷ []
named_by (Note note) = note.target ∷ []

-- the first of some IDs that is not in the layer
abbrev pub first_missing : Annotations → List AnnId → Option Rule
first_missing layer ids = option_map NoSuch (find (λ id. not (has layer id)) ids)

-- an ID with whether its place wants it
pub record Wanted : Type 0 where
  pub id : AnnId
  pub fits : Bool

-- the first ID that its place does not want
abbrev pub first_unwanted : List Wanted → Option Rule
first_unwanted ids = option_map (λ wanted. WrongKind wanted.id) (find (λ wanted. not wanted.fits) ids)

-- an ID in the place of an argument
abbrev pub argument : Configuration → Annotations → AnnId → Wanted
argument conf layer id = record { id = id; fits = is_argument conf id.kind (type_of layer id) }

-- an ID in the place of a member of a class
abbrev pub member : Configuration → Annotations → AnnId → Wanted
member conf layer id = record { id = id; fits = is_member conf id.kind (type_of layer id) }

-- an ID in the place of a trigger of an event of this type
abbrev pub trigger : Annotations → TypeId → AnnId → Wanted
trigger layer kind id = record { id = id; fits = is_trigger kind id.kind (type_of layer id) }

-- what an annotation names, with whether its place wants it
abbrev pub wanted_by : Configuration → Annotations → Mark → List Wanted
wanted_by conf layer (Span span) = []
wanted_by conf layer (Event event) = trigger layer event.kind (id_at letter.Text event.trigger) ∷ map (λ arg. argument conf layer arg.target) event.args
wanted_by conf layer (Relation relation) = argument conf layer relation.first ∷ argument conf layer relation.second ∷ []
wanted_by conf layer (Attribute attribute) = record { id = attribute.target; fits = is_attribute_target conf attribute.target.kind (type_of layer attribute.target) } ∷ []
wanted_by conf layer (Normal normal) = record { id = normal.target; fits = is_normal_target normal.target.kind } ∷ []
wanted_by conf layer (Note note) = record { id = note.target; fits = is_note_target note.target.kind } ∷ []

-- an argument stands in a role that the event type does not have
abbrev pub unknown_role : Configuration → Mark → Option Rule
unknown_role conf (Event event) = where_so (list_any (λ arg. nat_le (length (roles_of conf event.kind.n)) arg.role) event.args) UnknownRole
unknown_role conf mark = None

-- the type of an argument is not admitted in its role
abbrev pub is_refused_argument : Configuration → Annotations → TypeId → Arg → Bool
is_refused_argument conf layer kind arg = option_map_or (λ type_. not (role_admits conf kind.n arg.role type_)) (type_of layer arg.target) false

-- no line of a relation type admits both types; the role is the first where no line admits the first type there, else the second
abbrev pub relation_types : Configuration → ℕ → Option TypeId → Option TypeId → Option Bool
relation_types conf relation (Some first) (Some second) =
    if relation_admits conf relation first second then None else Some (relation_admits_first conf relation first)
relation_types conf relation _ _ = None

-- the type of what stands in a role is not admitted there: the first argument of an event, a relation whose types no line admits, or an attribute's target
abbrev pub argument_type : Configuration → Annotations → Mark → Option Rule
argument_type conf layer (Event event) = option_map (λ arg. ArgumentType (role.Event event.kind arg.role)) (find (is_refused_argument conf layer event.kind) event.args)
argument_type conf layer (Relation relation) =
    option_map (λ second. ArgumentType (role.Relation relation.kind second)) (relation_types conf relation.kind.n (type_of layer relation.first) (type_of layer relation.second))
argument_type conf layer (Attribute attribute) =
    where_so (option_map_or (λ target. not (attribute_admits conf attribute.kind.n target)) (target_of layer attribute.target) false) (ArgumentType role.Attribute)
argument_type conf layer mark = None

-- how many arguments of a role
abbrev pub filled : ℕ → List Arg → ℕ
filled place args = count_by (λ arg. arg.role == place) args

-- the lowest role of an event that has more arguments than its greatest count
abbrev pub too_many : Configuration → Mark → Option Rule
too_many conf (Event event) =
    option_map (λ place. TooMany (role.Event event.kind place))
    (find (λ place. nat_lt (role_most conf event.kind.n place) (filled place event.args)) (range_with_len 0 (length (roles_of conf event.kind.n))))
too_many conf mark = None

-- a value is not declared, is given where none are, or is absent where some are
abbrev pub is_bad_value : ℕ → Option ℕ → Bool
is_bad_value declared None = nat_lt 0 declared
is_bad_value declared (Some value) = not (nat_lt value declared)

-- the value of an attribute
abbrev pub unknown_value : Configuration → Mark → Option Rule
unknown_value conf (Attribute attribute) = where_so (is_bad_value (length (values_of conf attribute.kind.n)) attribute.value) UnknownValue
unknown_value conf mark = None
