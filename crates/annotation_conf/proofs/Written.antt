-- The file that the canonical text of a configuration spells, by lists, and what a configuration keeps so that its text spells it.
use Rattle.std.specs.Prelude.{◌≡◌, ℕ, ◌+◌, ◌==◌, ◌<◌, Bool, true, false, List, [], ◌∷◌, ◌++◌, length, nat_lt, Some, None, codes, chars, if◌then◌else◌, map, filter, replicate, slice_get, IsUtf8}
use Rattle.std.specs.Option.{option_map_or}
use Rattle.std.specs.List.{join_with_byte, flat_map, enumerate_from, AllByRecursion}
use Rattle.mark_base.specs.Names.{name_fault}
use Rattle.type_hierarchy.specs.declared.type_row.TypeRow.{TypeRow}
use Rattle.conf_model.specs.ConfLines.{Section, Entities, Relations, Events, Attributes, Within, Header, Content, Line}
use Rattle.conf_model.specs.ConfPairs.{Alternative, Named, Held, Piece, Keyed, Pair}
use Rattle.conf_model.specs.ConfNames.{TypeLine, NamedLine, File}
use Rattle.conf_model.specs.ConfFaults.{is_no_declared}
use Rattle.conf_model.specs.ConfText.{depth_by, with_commas, where_so, type_name_at, relation_name_at, named_apart, mark_text, pair_text, role_text}
use Rattle.conf_model.specs.Configurations.{Configuration}
use Rattle.conf_model.specs.declared.alternatives.Alternatives.{Alternatives}
use Rattle.conf_model.specs.declared.role.Role.{Role}
use Rattle.conf_model.specs.declared.relation_type.Arguments.{Arguments}
use Rattle.conf_model.specs.declared.relation_type.RelationType.{RelationType}
use Rattle.conf_model.specs.declared.attribute_type.AttributeType.{AttributeType}
use Rattle.conf_model.specs.declared.overlap_line.Overlap.{Overlap}

-- The rows that are written, section by section.

-- entity types and event types, each with its place
abbrev pub entity_rows : Configuration → List (ℕ × TypeRow)
entity_rows conf = filter (λ placed. if placed.1.event then false else true) (enumerate_from 0 conf.types)

abbrev pub event_rows : Configuration → List (ℕ × TypeRow)
event_rows conf = filter (λ placed. placed.1.event) (enumerate_from 0 conf.types)

-- the lines of relation types, each with its relation type
abbrev pub with_lines : RelationType → List (RelationType × Arguments)
with_lines relation = map (λ line. (relation, line)) relation.lines

abbrev pub relation_rows : Configuration → List (RelationType × Arguments)
relation_rows conf = flat_map with_lines conf.relations

-- the roles of the type of a place
abbrev pub roles_at : Configuration → ℕ → List Role
roles_at conf place = option_map_or (λ roles. roles) (slice_get conf.roles place) []

-- The numbers of the section lines; that of `[entities]` is 1.

abbrev pub relations_head : Configuration → ℕ
relations_head conf = length (entity_rows conf) + 2

abbrev pub events_head : Configuration → ℕ
events_head conf = relations_head conf + length (relation_rows conf) + length conf.overlaps + 1

abbrev pub attributes_head : Configuration → ℕ
attributes_head conf = events_head conf + length (event_rows conf) + 1

-- What stands behind the names.

-- a built-in macro where something holds
abbrev pub held_where : Bool → List ℕ → List Alternative
held_where so name = if so then Held name ∷ [] else []

-- alternatives: the built-in macros, then types, then relation types whose names no type has
abbrev pub written_alternatives : Configuration → Alternatives → List Alternative
written_alternatives conf named =
    held_where named.entity (codes "ENTITY") ++ held_where named.event (codes "EVENT") ++ held_where named.any (codes "ANY")
    ++ held_where named.relation (codes "RELATION") ++ map (λ place. Named (type_name_at conf place)) named.bound
    ++ map (λ place. Named (relation_name_at conf place)) (named_apart conf named)

-- a role without a mark, and a role of an event type
abbrev pub written_pair : Configuration → List ℕ → Alternatives → Piece
written_pair conf role named = Pair role [] (written_alternatives conf named)

abbrev pub written_role : Configuration → Role → Piece
written_role conf role = Pair role.name (mark_text role.least role.most) (written_alternatives conf role.targets)

-- the pieces of a line of a relation type, of an overlap line and of an attribute
abbrev pub relation_pieces : Configuration → RelationType × Arguments → List Piece
relation_pieces conf row =
    written_pair conf row.0.first row.1.first ∷ written_pair conf row.0.second row.1.second
    ∷ (if row.0.equivalence then Keyed (codes "REL-TYPE") (codes "symmetric-transitive") ∷ [] else [])

abbrev pub overlap_kinds : Overlap → List (List ℕ)
overlap_kinds line = where_so line.contain (codes "contain") ++ where_so line.equal (codes "equal") ++ where_so line.cross (codes "cross") ++ where_so line.any (codes "<ANY>")

abbrev pub overlap_pieces : Configuration → Overlap → List Piece
overlap_pieces conf line =
    written_pair conf (codes "Arg1") line.first ∷ written_pair conf (codes "Arg2") line.second ∷ Keyed (codes "OVL-TYPE") (join_with_byte 124 (overlap_kinds line)) ∷ []

abbrev pub attribute_pieces : Configuration → AttributeType → List Piece
attribute_pieces conf attribute =
    written_pair conf (codes "Arg") attribute.targets
    ∷ (if nat_lt 0 (length attribute.values) then Pair (codes "Value") [] (map (λ value. Named value) attribute.values) ∷ [] else [])

-- The lines that declare something, by their numbers.

abbrev pub written_type : Configuration → ℕ → ℕ × TypeRow → TypeLine
written_type conf number placed = record {
  number = number;
  depth = depth_by (length conf.types) conf.types placed.0;
  spaced = false;
  gapped = false;
  usable = placed.1.usable;
  name = placed.1.name;
  pieces = map (written_role conf) (roles_at conf placed.0);
}

abbrev pub written_relation : Configuration → ℕ → RelationType × Arguments → NamedLine
written_relation conf number row = record { number = number; name = row.0.name; pieces = relation_pieces conf row }

abbrev pub written_overlap : Configuration → ℕ → Overlap → NamedLine
written_overlap conf number line = record { number = number; name = codes "<OVERLAP>"; pieces = overlap_pieces conf line }

abbrev pub written_attribute : Configuration → ℕ → AttributeType → NamedLine
written_attribute conf number attribute = record { number = number; name = attribute.name; pieces = attribute_pieces conf attribute }

-- lines of rows, of which the first has this number
abbrev pub numbered : {X Y : Type 0} → (ℕ → X → Y) → ℕ → List X → List Y
numbered write number rows = map (λ placed. write placed.0 placed.1) (enumerate_from number rows)

-- The texts of the lines, without their ends.

abbrev pub body : List ℕ → List (List ℕ) → List ℕ
body name pairs = name ++ (if length pairs == 0 then [] else codes "\t" ++ with_commas pairs)

abbrev pub type_body : Configuration → ℕ × TypeRow → List ℕ
type_body conf placed =
    replicate (depth_by (length conf.types) conf.types placed.0) 9 ++ (if placed.1.usable then [] else codes "!")
    ++ body placed.1.name (map (role_text conf) (roles_at conf placed.0))

abbrev pub relation_body : Configuration → RelationType × Arguments → List ℕ
relation_body conf row =
    body row.0.name (pair_text conf row.0.first row.1.first ∷ pair_text conf row.0.second row.1.second
    ∷ where_so row.0.equivalence (codes "<REL-TYPE>:symmetric-transitive"))

abbrev pub overlap_body : Configuration → Overlap → List ℕ
overlap_body conf line =
    body (codes "<OVERLAP>") (pair_text conf (codes "Arg1") line.first ∷ pair_text conf (codes "Arg2") line.second
    ∷ (codes "<OVL-TYPE>:" ++ join_with_byte 124 (overlap_kinds line)) ∷ [])

abbrev pub attribute_body : Configuration → AttributeType → List ℕ
attribute_body conf attribute =
    body attribute.name (pair_text conf (codes "Arg") attribute.targets
    ∷ where_so (nat_lt 0 (length attribute.values)) (codes "Value:" ++ join_with_byte 124 attribute.values))

-- the texts of the lines of the four sections
abbrev pub entity_bodies : Configuration → List (List ℕ)
entity_bodies conf = map (type_body conf) (entity_rows conf)

abbrev pub relation_bodies : Configuration → List (List ℕ)
relation_bodies conf = map (relation_body conf) (relation_rows conf) ++ map (overlap_body conf) conf.overlaps

abbrev pub event_bodies : Configuration → List (List ℕ)
event_bodies conf = map (type_body conf) (event_rows conf)

abbrev pub attribute_bodies : Configuration → List (List ℕ)
attribute_bodies conf = map (attribute_body conf) conf.attributes

-- a line of a section by its number and its text
abbrev pub content_line : Section → ℕ → List ℕ → Line
content_line section number text = record { number = number; place = Within section; kind = Content (chars text) }

-- a section: its section line, which has this number, and its lines
abbrev pub written_section : Section → ℕ → List (List ℕ) → List Line
written_section section number texts = record { number = number; place = Within section; kind = Header (Some section) } ∷ numbered (content_line section) (number + 1) texts

-- the file that the canonical text spells
abbrev pub written_file : Configuration → File
written_file conf = record {
  lines =
      written_section Entities 1 (entity_bodies conf) ++ written_section Relations (relations_head conf) (relation_bodies conf)
      ++ written_section Events (events_head conf) (event_bodies conf) ++ written_section Attributes (attributes_head conf) (attribute_bodies conf);
  entities = numbered (written_type conf) 2 (entity_rows conf);
  events = numbered (written_type conf) (events_head conf + 1) (event_rows conf);
  relations = numbered (written_relation conf) (relations_head conf + 1) (relation_rows conf);
  overlaps = numbered (written_overlap conf) (relations_head conf + 1 + length (relation_rows conf)) conf.overlaps;
  attributes = numbered (written_attribute conf) (attributes_head conf + 1) conf.attributes;
  macros = [];
}

-- What a configuration keeps so that its text spells that file. Each is so of a configuration that was read: a name that a file gives is `encode_utf8_all`
-- of characters of its bytes, so it is UTF-8 (`IsUtf8` of those very characters), and the rest is what each fault rules out.
-- Nothing is asked of the counts (each has a text of its own), of the kinds of an overlap line, nor of the roles of entity types.

-- a name: of a role or a value
pub record IsWord (word : List ℕ) : Type 0 where
  pub valid : IsUtf8 word
  pub faultless : name_fault word ≡ None

-- a name that a line declares: of a type, a relation type or an attribute
pub record IsDeclaredWord (word : List ℕ) : Type 0 where
  pub valid : IsUtf8 word
  pub faultless : is_no_declared word ≡ false

-- at least one alternative, each of them there
pub record IsSpelledChoice (conf : Configuration) (named : Alternatives) : Type 0 where
  pub some : 0 < length (written_alternatives conf named)
  pub bound : AllByRecursion (λ place. place < length conf.types) named.bound
  pub between : AllByRecursion (λ place. place < length conf.relations) named.between

pub record IsSpelledRole (conf : Configuration) (role : Role) : Type 0 where
  pub word : IsWord role.name
  pub targets : IsSpelledChoice conf role.targets

pub record IsSpelledArguments (conf : Configuration) (line : Arguments) : Type 0 where
  pub first : IsSpelledChoice conf line.first
  pub second : IsSpelledChoice conf line.second

pub record IsSpelledRelation (conf : Configuration) (relation : RelationType) : Type 0 where
  pub word : IsDeclaredWord relation.name
  pub first : IsWord relation.first
  pub second : IsWord relation.second
  pub lines : AllByRecursion (IsSpelledArguments conf) relation.lines

pub record IsSpelledAttribute (conf : Configuration) (attribute : AttributeType) : Type 0 where
  pub word : IsDeclaredWord attribute.name
  pub targets : IsSpelledChoice conf attribute.targets
  pub values : AllByRecursion IsWord attribute.values

pub record IsSpelledOverlap (conf : Configuration) (line : Overlap) : Type 0 where
  pub first : IsSpelledChoice conf line.first
  pub second : IsSpelledChoice conf line.second

pub record IsSpelled (conf : Configuration) : Type 0 where
  pub types : AllByRecursion (λ row. IsDeclaredWord row.name) conf.types
  pub roles : AllByRecursion (λ roles. AllByRecursion (IsSpelledRole conf) roles) conf.roles
  pub relations : AllByRecursion (IsSpelledRelation conf) conf.relations
  pub attributes : AllByRecursion (IsSpelledAttribute conf) conf.attributes
  pub overlaps : AllByRecursion (IsSpelledOverlap conf) conf.overlaps
