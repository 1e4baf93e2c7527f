-- What every configuration that was read keeps, and what its canonical text rests on.
use Rattle.std.specs.Prelude.{◌≡◌, ℕ, ◌+◌, ◌<◌, ◌≤◌, ◌==◌, ◌||◌, ◌&&◌, Bool, true, false, List, [], ◌∷◌, ◌++◌, length, take, nat_lt, nat_le, None, bytes_eq, if◌then◌else◌, map, filter, IsUtf8}
use Rattle.std.specs.List.{All, enumerate_from}
use Rattle.type_hierarchy.specs.declared.type_row.TypeRow.{TypeRow}
use Rattle.type_hierarchy.specs.TypeFaults.{fault_of}
use Rattle.conf_model.specs.ConfNames.{TypeLine}
use Rattle.conf_model.specs.ConfFaults.{is_no_name, is_no_declared, stands_twice}
use Rattle.conf_model.specs.ConfOf.{places_of, rows_from}
use Rattle.conf_model.specs.ConfText.{depth_by, type_name_at, relation_name_at}
use Rattle.conf_model.specs.Configurations.{Alternatives, Role, Arguments, RelationType, AttributeType, Overlap, Configuration}

-- a name of a role or a value
pub record IsName (word : List ℕ) : Type 0 where
  pub valid : IsUtf8 word
  pub faultless : is_no_name word ≡ false

-- a name that a line declares, of a type, a relation type or an attribute
pub record IsDeclaredName (word : List ℕ) : Type 0 where
  pub valid : IsUtf8 word
  pub faultless : is_no_declared word ≡ false

-- the line of a type by its place and its row, without its roles
abbrev pub bare_line : List TypeRow → ℕ × TypeRow → TypeLine
bare_line rows placed = record {
  number = 0;
  depth = depth_by (length rows) rows placed.0;
  spaced = false;
  gapped = false;
  usable = placed.1.usable;
  name = placed.1.name;
  pieces = [];
}

-- the lines of the entity types
abbrev pub entity_lines : List TypeRow → List TypeLine
entity_lines rows = map (bare_line rows) (filter (λ placed. if placed.1.event then false else true) (enumerate_from 0 rows))

-- the lines of the event types
abbrev pub event_lines : List TypeRow → List TypeLine
event_lines rows = map (bare_line rows) (filter (λ placed. placed.1.event) (enumerate_from 0 rows))

-- the first line stands at most so deep, and each other at most one deeper than the line before it
abbrev pub steps_down : ℕ → List TypeLine → Bool
steps_down most [] = true
steps_down most (line ∷ lines) = nat_le line.depth most && steps_down (line.depth + 1) lines

-- two counts that a mark stands for: `?` and `{N-M}`, `*` and `+`
abbrev pub has_mark : ℕ → ℕ → Bool
has_mark least most = nat_le least most && nat_lt 0 most && nat_lt most 100 || nat_le least 1 && most == 4294967295

-- the names that alternatives name by places
abbrev pub named_names : Configuration → Alternatives → List (List ℕ)
named_names conf named = map (type_name_at conf) named.bound ++ map (relation_name_at conf) named.between

-- alternatives name something
abbrev pub names_some : Alternatives → Bool
names_some named = named.entity || named.event || named.any || named.relation || nat_lt 0 (length named.bound) || nat_lt 0 (length named.between)

-- alternatives of a place in which relation types may stand, or not
pub record AreTargets (conf : Configuration) (relations : Bool) (named : Alternatives) : Type 0 where
  pub some : names_some named ≡ true
  pub relation : relations ≡ false → named.relation ≡ false
  -- places are in range
  pub bound_within : All (λ place. place < length conf.types) named.bound
  pub between_within : All (λ place. place < length conf.relations) named.between
  -- they are in order, and a name that both a type and a relation type have stands for both
  pub bound : places_of (named_names conf named) (map (λ row. row.name) conf.types) ≡ named.bound
  pub between : (if relations then places_of (named_names conf named) (map (λ relation. relation.name) conf.relations) else []) ≡ named.between

-- a role of an event type
pub record IsRole (conf : Configuration) (role : Role) : Type 0 where
  pub name : IsName role.name
  pub count : has_mark role.least role.most ≡ true
  pub targets : AreTargets conf false role.targets

-- the roles of a type
pub record AreRoles (conf : Configuration) (roles : List Role) : Type 0 where
  pub few : length roles ≤ 256
  pub differ : stands_twice (map (λ role. role.name) roles) ≡ false
  pub each : All (IsRole conf) roles

-- the arguments of a line
pub record AreArguments (conf : Configuration) (line : Arguments) : Type 0 where
  pub first : AreTargets conf false line.first
  pub second : AreTargets conf false line.second

-- a relation type
pub record IsRelation (conf : Configuration) (relation : RelationType) : Type 0 where
  pub name : IsDeclaredName relation.name
  pub first : IsName relation.first
  pub second : IsName relation.second
  pub differ : bytes_eq relation.first relation.second ≡ false
  pub some : 0 < length relation.lines
  pub lines : All (AreArguments conf) relation.lines

-- an attribute
pub record IsAttribute (conf : Configuration) (attribute : AttributeType) : Type 0 where
  pub name : IsDeclaredName attribute.name
  pub targets : AreTargets conf true attribute.targets
  pub few : length attribute.values ≤ 256
  pub values : All IsName attribute.values
  pub differ : stands_twice attribute.values ≡ false

-- an overlap line
pub record IsOverlap (conf : Configuration) (line : Overlap) : Type 0 where
  pub first : AreTargets conf false line.first
  pub second : AreTargets conf false line.second
  pub some : (line.contain || line.equal || line.cross || line.any) ≡ true

-- a configuration that can be written and read again
pub record IsSound (conf : Configuration) : Type 0 where
  -- names differ, parents stand before, at most 256 rows, and at most 63 that may be used
  pub types : fault_of conf.types ≡ None
  pub names : All (λ row. IsDeclaredName row.name) conf.types
  pub entities_first : filter (λ row. if row.event then false else true) conf.types ++ filter (λ row. row.event) conf.types ≡ conf.types
  -- a type's parent is the last earlier type of its section that stands one less deep
  pub tree : rows_from 0 false [] (entity_lines conf.types) ++ rows_from (length (entity_lines conf.types)) true [] (event_lines conf.types) ≡ conf.types
  pub entity_steps : steps_down 0 (entity_lines conf.types) ≡ true
  pub event_steps : steps_down 0 (event_lines conf.types) ≡ true
  pub roles_each : length conf.roles ≡ length conf.types
  -- entity types have no roles
  pub entity_roles : take (length (entity_lines conf.types)) conf.roles ≡ map (λ line. []) (entity_lines conf.types)
  pub roles : All (AreRoles conf) conf.roles
  pub relations_few : length conf.relations ≤ 256
  pub relations_differ : stands_twice (map (λ relation. relation.name) conf.relations) ≡ false
  pub relations : All (IsRelation conf) conf.relations
  pub attributes_few : length conf.attributes ≤ 256
  pub attributes_differ : stands_twice (map (λ attribute. attribute.name) conf.attributes) ≡ false
  pub attributes : All (IsAttribute conf) conf.attributes
  pub overlaps : All (IsOverlap conf) conf.overlaps
