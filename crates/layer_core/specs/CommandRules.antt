-- What breaks a rule in a command's own fields.
use Rattle.std.specs.Prelude.{ℕ, ◌==◌, ◌||◌, ◌&&◌, Bool, true, false, not, List, [], ◌∷◌, ◌++◌, length, nat_lt, Option, Some, None, is_none, option_map, option_and_then, find, if◌then◌else◌}
use Rattle.std.specs.Option.{option_map_or}
use Rattle.std.specs.List.{list_any}
use Rattle.std.specs.FinMap as finite
use Rattle.mark_base.specs.declared.ann_id.AnnId.{AnnId}
use Rattle.mark_base.specs.declared.ann_id.Kind.{Kind}
use Rattle.mark_base.specs.declared.ann_id.Kind.TheVariants as letter
use Rattle.mark_base.specs.declared.table_places.TypeId.{TypeId}
use Rattle.mark_base.specs.declared.arguments.Arg.{Arg}
use Rattle.mark_base.specs.declared.named_args.NamedArg.{NamedArg}
use Rattle.type_hierarchy.specs.TypeTrees.{type_named}
use Rattle.conf_model.specs.Configurations.{Configuration}
use Rattle.conf_model.specs.Lookups.{role_named, attribute_admits, is_equivalence}
use Rattle.layer_model.specs.declared.mark.Mark.{Mark}
use Rattle.layer_model.specs.declared.mark.Mark.TheVariants.{Attribute}
use Rattle.layer_model.specs.declared.class.Class.{Class}
use Rattle.layer_model.specs.declared.rule.Rule.{Rule}
use Rattle.layer_model.specs.declared.rule.Rule.TheVariants.{UnknownType, NotForUse, UnknownRole, ArgumentType, NoSuchArgument, AttributeThere, EquivMembers, InUse, IdsUsedUp}
use Rattle.layer_model.specs.declared.rule.RoleAt.TheVariants as role
use Rattle.layer_model.specs.Annotations.{Annotations}
use Rattle.layer_model.specs.Layers.{mark_at, greatest}
use Rattle.layer_model.specs.LayerIds.{ids_of, ids_of_letter}
use Rattle.layer_rules.specs.Targets.{is_event_type, type_of, target_of}
use Rattle.layer_rules.specs.MarkRules.{where_so, is_barred_type, named_by, Wanted}
use Rattle.layer_rules.specs.AttributeValues.{Valued, Undeclared, Declared}
use Rattle.layer_rules.specs.LayerRules.{is_id, is_arg, are_bad_members}

-- the event type of a name
abbrev pub event_named : Configuration → List ℕ → Option TypeId
event_named conf name = option_and_then (λ id. if is_event_type conf id then Some id else None) (type_named conf.types name)

-- a name that is not declared
abbrev pub undeclared : {X : Type 0} → Option X → Option Rule
undeclared found = where_so (is_none found) UnknownType

-- a type that annotations may not have
abbrev pub barred : Configuration → Option TypeId → Option Rule
barred conf found = option_and_then (λ id. where_so (is_barred_type conf id) NotForUse) found

-- a relation type that is no equivalence
abbrev pub no_equivalence : Configuration → Option ℕ → Option Rule
no_equivalence conf found = option_and_then (λ id. where_so (not (is_equivalence conf id)) NotForUse) found

-- an ID in a place that wants one letter
abbrev pub of_letters : (Kind → Bool) → AnnId → Wanted
of_letters fits id = record { id = id; fits = fits id.kind }

-- the letter of spans
abbrev pub is_span_letter : Kind → Bool
is_span_letter letter.Text = true
is_span_letter _ = false

-- the letter of events
abbrev pub is_event_letter : Kind → Bool
is_event_letter letter.Event = true
is_event_letter _ = false

-- the letter of relations
abbrev pub is_relation_letter : Kind → Bool
is_relation_letter letter.Relation = true
is_relation_letter _ = false

-- the letters of attributes
abbrev pub is_attribute_letter : Kind → Bool
is_attribute_letter letter.Attribute = true
is_attribute_letter letter.Legacy = true
is_attribute_letter _ = false

-- the lowest ID whose annotation names another
abbrev pub first_naming : Annotations → AnnId → Option AnnId
first_naming layer id = find (λ other. option_map_or (λ mark. list_any (is_id id) (named_by mark)) (mark_at layer other) false) (ids_of layer)

-- an annotation that another one names
abbrev pub in_use : Annotations → AnnId → Option Rule
in_use layer id = option_map InUse (first_naming layer id)

-- a span that is the trigger of an event
abbrev pub is_in_trigger : Annotations → AnnId → Bool
is_in_trigger layer id = is_span_letter id.kind && list_any (λ entry. entry.1.trigger == id.number) (finite.entries layer.events)

-- a trigger keeps its type
abbrev pub trigger_in_use : Annotations → AnnId → Option Rule
trigger_in_use layer id = if is_in_trigger layer id then in_use layer id else None

-- the greatest number of a letter is taken
abbrev pub used_up : Annotations → Kind → Option Rule
used_up layer kind = where_so (option_map_or (λ number. number == 999999999) (greatest layer kind) false) (IdsUsedUp kind)

-- arguments by their places, where the event type has all their roles
abbrev pub args_named : Configuration → TypeId → List NamedArg → Option (List Arg)
args_named conf kind [] = Some []
args_named conf kind (arg ∷ more) =
    option_and_then (λ place. option_map (λ args. record { role = place; target = arg.target } ∷ args) (args_named conf kind more)) (role_named conf kind.n arg.role)

-- a role that the event type does not have
abbrev pub role_undeclared : Configuration → TypeId → NamedArg → Bool
role_undeclared conf kind arg = is_none (role_named conf kind.n arg.role)

-- some role that the event type does not have
abbrev pub roles_undeclared : Configuration → Option TypeId → List NamedArg → Option Rule
roles_undeclared conf found args = option_and_then (λ kind. where_so (list_any (role_undeclared conf kind) args) UnknownRole) found

-- the type of the event of an ID
abbrev pub event_type : Annotations → AnnId → Option TypeId
event_type layer id = if is_event_letter id.kind then type_of layer id else None

-- a named argument by its place
abbrev pub arg_named : Configuration → TypeId → NamedArg → Option Arg
arg_named conf kind arg = option_map (λ place. record { role = place; target = arg.target }) (role_named conf kind.n arg.role)

-- an event does not have the argument
abbrev pub no_such_argument : Configuration → Annotations → AnnId → NamedArg → Option Rule
no_such_argument conf layer id arg =
    option_and_then (λ event. option_and_then (λ wanted. where_so (not (list_any (is_arg wanted) event.args)) NoSuchArgument) (arg_named conf event.kind arg))
    (if is_event_letter id.kind then finite.get layer.events id.number else None)

-- the attribute of a type and a target has this value
abbrev pub has_value : Option ℕ → Valued → Bool
has_value a Undeclared = false
has_value None (Declared None) = true
has_value (Some a) (Declared (Some b)) = a == b
has_value _ _ = false

-- a mark is an attribute of a type on a target
abbrev pub is_attribute_on : ℕ → AnnId → Mark → Bool
is_attribute_on kind target (Attribute attribute) = attribute.kind.n == kind && is_id attribute.target target
is_attribute_on kind target _ = false

-- the lowest attribute of a type on a target, under either letter
abbrev pub attribute_on : Annotations → ℕ → AnnId → Option AnnId
attribute_on layer kind target = find (λ other. option_map_or (is_attribute_on kind target) (mark_at layer other) false) (ids_of_letter layer letter.Attribute ++ ids_of_letter layer letter.Legacy)

-- the value in a mark
abbrev pub value_in : Mark → Option ℕ
value_in (Attribute attribute) = attribute.value
value_in _ = None

-- the value of an attribute
abbrev pub value_at : Annotations → AnnId → Option ℕ
value_at layer id = option_and_then (λ mark. value_in mark) (mark_at layer id)

-- the attribute is there with the same value
abbrev pub attribute_same : Annotations → ℕ → AnnId → Valued → Option Rule
attribute_same layer kind target value =
    option_and_then (λ id. where_so (has_value (value_at layer id) value) (AttributeThere id)) (attribute_on layer kind target)

-- a target that the attribute does not admit
abbrev pub target_refused : Configuration → Annotations → Option ℕ → AnnId → Option Rule
target_refused conf layer found target =
    option_and_then (λ kind. where_so (option_map_or (λ admitted. not (attribute_admits conf kind admitted)) (target_of layer target) false) (ArgumentType role.Attribute)) found

-- members that make no class: fewer than two, one twice, or two that no line admits
abbrev pub members_refused : Configuration → Annotations → Option ℕ → List AnnId → Option Rule
members_refused conf layer found members =
    option_and_then (λ kind. where_so (nat_lt (length members) 2 || are_bad_members conf layer kind members) EquivMembers) found

-- a class of a relation type has the ID
abbrev pub is_in_class : ℕ → AnnId → Class → Bool
is_in_class kind id class = class.kind.n == kind && list_any (is_id id) class.members

-- no class of a relation type has the ID
abbrev pub not_in_class : Annotations → Option ℕ → AnnId → Option Rule
not_in_class layer found id = option_and_then (λ kind. where_so (not (list_any (is_in_class kind id) layer.classes)) EquivMembers) found
