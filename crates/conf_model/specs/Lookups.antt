-- What a configuration answers: look-ups by name and by place, what may stand where, and the categories of agreement.
use Rattle.std.specs.Prelude.{ℕ, ◌+◌, ◌||◌, ◌&&◌, Bool, true, false, not, List, [], length, take, nat_lt, Option, option_map, bytes_eq, if◌then◌else◌, count_by, slice_get}
use Rattle.std.specs.Option.{option_map_or}
use Rattle.std.specs.List.{list_any, position_from}
use Rattle.mark_base.specs.declared.table_places.TypeId.{TypeId}
use Rattle.mark_base.specs.declared.overlap.OvlKind.{OvlKind}
use Rattle.mark_base.specs.declared.overlap.OvlKind.TheVariants.{Apart, Equal, Contains, Inside, Cross}
use Rattle.type_hierarchy.specs.declared.type_row.TypeRow.{TypeRow}
use Rattle.conf_model.specs.declared.attr_target.AttrTarget.{AttrTarget}
use Rattle.conf_model.specs.declared.attr_target.AttrTarget.TheVariants.{Bound, Between}
use Rattle.conf_model.specs.Configurations.{Alternatives, Role, Overlap, Configuration, admits, admits_relation}

-- relation types
abbrev pub relation_named : Configuration → List ℕ → Option ℕ
relation_named conf name = position_from (λ relation. bytes_eq relation.name name) 0 conf.relations

-- its name, and that of its first or second role
abbrev pub relation_name : Configuration → ℕ → Option (List ℕ)
relation_name conf id = option_map (λ relation. relation.name) (slice_get conf.relations id)

-- the name of its first or second role
abbrev pub relation_role : Configuration → ℕ → Bool → Option (List ℕ)
relation_role conf id second = option_map (λ relation. if second then relation.second else relation.first) (slice_get conf.relations id)

-- whether it is an equivalence
abbrev pub is_equivalence : Configuration → ℕ → Bool
is_equivalence conf id = option_map_or (λ relation. relation.equivalence) (slice_get conf.relations id) false

-- some line of a relation type admits both types
abbrev pub relation_admits : Configuration → ℕ → TypeId → TypeId → Bool
relation_admits conf id first second =
    option_map_or (λ relation. list_any (λ line. admits conf.types line.first first && admits conf.types line.second second) relation.lines) (slice_get conf.relations id) false

-- some line of a relation type admits the type as its first argument
abbrev pub relation_admits_first : Configuration → ℕ → TypeId → Bool
relation_admits_first conf id first = option_map_or (λ relation. list_any (λ line. admits conf.types line.first first) relation.lines) (slice_get conf.relations id) false

-- the roles of event types; a type that is none has no roles
abbrev pub roles_of : Configuration → ℕ → List Role
roles_of conf event = option_map_or (λ roles. roles) (slice_get conf.roles event) []

-- the role of a name
abbrev pub role_named : Configuration → ℕ → List ℕ → Option ℕ
role_named conf event name = position_from (λ role. bytes_eq role.name name) 0 (roles_of conf event)

-- its name
abbrev pub role_name : Configuration → ℕ → ℕ → Option (List ℕ)
role_name conf event role = option_map (λ role. role.name) (slice_get (roles_of conf event) role)

-- how often it is filled at least and at most
abbrev pub role_least : Configuration → ℕ → ℕ → ℕ
role_least conf event role = option_map_or (λ role. role.least) (slice_get (roles_of conf event) role) 0

-- how often it is filled at most
abbrev pub role_most : Configuration → ℕ → ℕ → ℕ
role_most conf event role = option_map_or (λ role. role.most) (slice_get (roles_of conf event) role) 0

-- whether a type may fill it
abbrev pub role_admits : Configuration → ℕ → ℕ → TypeId → Bool
role_admits conf event role target = option_map_or (λ role. admits conf.types role.targets target) (slice_get (roles_of conf event) role) false

-- attributes and their values
abbrev pub attribute_named : Configuration → List ℕ → Option ℕ
attribute_named conf name = position_from (λ attribute. bytes_eq attribute.name name) 0 conf.attributes

-- its name
abbrev pub attribute_name : Configuration → ℕ → Option (List ℕ)
attribute_name conf id = option_map (λ attribute. attribute.name) (slice_get conf.attributes id)

-- its values
abbrev pub values_of : Configuration → ℕ → List (List ℕ)
values_of conf id = option_map_or (λ attribute. attribute.values) (slice_get conf.attributes id) []

-- the value of a name
abbrev pub value_named : Configuration → ℕ → List ℕ → Option ℕ
value_named conf id name = position_from (λ value. bytes_eq value name) 0 (values_of conf id)

-- whether it may be set on an annotation of a type
abbrev pub attribute_admits_type : Configuration → ℕ → TypeId → Bool
attribute_admits_type conf id target = option_map_or (λ attribute. admits conf.types attribute.targets target) (slice_get conf.attributes id) false

-- a relation type out of range is admitted nowhere
abbrev pub attribute_admits_relation : Configuration → ℕ → ℕ → Bool
attribute_admits_relation conf id target =
    option_map_or (λ attribute. nat_lt target (length conf.relations) && admits_relation attribute.targets target) (slice_get conf.attributes id) false

-- these alternatives admit what an attribute is set on; a relation type out of range is admitted nowhere
abbrev pub targets_admit : Configuration → Alternatives → AttrTarget → Bool
targets_admit conf targets (Bound type_) = admits conf.types targets type_
targets_admit conf targets (Between relation) = nat_lt relation.n (length conf.relations) && admits_relation targets relation.n

-- what an attribute may be set on
abbrev pub attribute_admits : Configuration → ℕ → AttrTarget → Bool
attribute_admits conf id target = option_map_or (λ attribute. targets_admit conf attribute.targets target) (slice_get conf.attributes id) false

-- an overlap line has the kind in which its first span lies to its second; `<ANY>` has every kind
abbrev pub has_kind : Overlap → OvlKind → Bool
has_kind line Apart = true
has_kind line Equal = line.any || line.equal
has_kind line Contains = line.any || line.contain
has_kind line Inside = line.any
has_kind line Cross = line.any || line.cross

-- the kind the other way round
abbrev pub turned : OvlKind → OvlKind
turned Apart = Apart
turned Equal = Equal
turned Contains = Inside
turned Inside = Contains
turned Cross = Cross

-- no character in common
abbrev pub is_apart : OvlKind → Bool
is_apart Apart = true
is_apart _ = false

-- a line allows two spans of these types, the first as Arg1
abbrev pub line_allows : List TypeRow → TypeId → TypeId → OvlKind → Overlap → Bool
line_allows rows a b kind line = admits rows line.first a && admits rows line.second b && has_kind line kind

-- a line allows two spans of these types, either as Arg1
abbrev pub allows_either : List TypeRow → Overlap → TypeId → TypeId → OvlKind → Bool
allows_either rows line a b kind = line_allows rows a b kind line || line_allows rows b a (turned kind) line

-- two spans of these types may lie so to one another: where they are apart, where no line speaks of overlaps, or where some line allows it, either way round
abbrev pub overlap_allowed : Configuration → TypeId → TypeId → OvlKind → Bool
overlap_allowed conf a b kind =
    nat_lt a.n (length conf.types) && nat_lt b.n (length conf.types)
    && (is_apart kind || not (nat_lt 0 (length conf.overlaps)) || list_any (λ line. allows_either conf.types line a b kind) conf.overlaps)

-- how many of some types annotations may have
abbrev pub usable_in : List TypeRow → ℕ
usable_in rows = count_by (λ row. row.usable) rows

-- categories number the usable types from 1; a type that is not usable is 0, and so is a token without a label
abbrev pub category_of : Configuration → TypeId → ℕ
category_of conf id = option_map_or (λ row. if row.usable then usable_in (take id.n conf.types) + 1 else 0) (slice_get conf.types id.n) 0

-- how many categories there are, 0 among them
abbrev pub categories_of : Configuration → ℕ
categories_of conf = usable_in conf.types + 1
