-- What lines say by the values that are kept of them (private calls only).
use Rattle.std.specs.Prelude.{◌≡◌, ℕ, ◌-◌, ◌<◌, length, All, Option, None, Ok, option_map, ◌&&◌, ◌==◌, Bool, true, not, List, [], ◌∷◌, map, filter, bytes_eq, codes, if◌then◌else◌}
use Rattle.std.specs.List.{list_any, slice_split}
use Rattle.annotation_conf.specs.declared.pieces.Alternative.{Alternative as AlternativeValue}
use Rattle.annotation_conf.specs.declared.pieces.RolePair.{RolePair as RolePairValue}
use Rattle.annotation_conf.specs.declared.pieces.KeyedPair.{KeyedPair as KeyedPairValue}
use Rattle.mark_base.specs.Names.{name_fault}
use Rattle.mark_base.specs.declared.table_places.TypeId.{TypeId}
use Rattle.std.specs.BTreeMap.{BTreeMap, get}
use Rattle.std.specs.Ordering.{nat_cmp}
use Rattle.annotation_conf.specs.declared.file.TypeLine.{TypeLine as TypeLineValue}
use Rattle.annotation_conf.specs.declared.file.NamedLine.{NamedLine as NamedLineValue}
use Rattle.conf_model.specs.ConfNames.{File, TypeLine, file_of}
use Rattle.conf_model.specs.ConfFaults.{is_among, is_values, word_of, stood_before, of_named}
use Rattle.conf_model.specs.ConfOf.{resolved, arguments_of, role_at, role_of, last_at, conf_of, configuration_of}
use Rattle.conf_model.specs.declared.role.Role.{Role}
use Rattle.conf_model.specs.declared.relation_type.Arguments.{Arguments}
use Rattle.conf_model.specs.declared.relation_type.RelationType.{RelationType}
use Rattle.conf_model.specs.declared.overlap_line.Overlap.{Overlap}
use Rattle.conf_model.specs.declared.attribute_type.AttributeType.{AttributeType}
use Rattle.annotation_conf.specs.FileShows.{seen_alternative, seen_pair, seen_keyed}
use Rattle.annotation_conf.specs.FaultsTold.{mark_equivalence}

-- a pair of kinds has this kind
abbrev pub has_kind_told : List ℕ → KeyedPairValue → Bool
has_kind_told kind pair = bytes_eq pair.key (codes "OVL-TYPE") && is_among (slice_split (λ c. c == 124) pair.value.items) kind

-- an overlap line
abbrev pub overlap_kept : File → NamedLineValue → Overlap
overlap_kept file line = record {
  first = (arguments_of file (map seen_pair line.pieces.pairs.items)).first;
  second = (arguments_of file (map seen_pair line.pieces.pairs.items)).second;
  contain = list_any (has_kind_told (codes "contain")) line.pieces.keyed.items;
  equal = list_any (has_kind_told (codes "equal")) line.pieces.keyed.items;
  cross = list_any (has_kind_told (codes "cross")) line.pieces.keyed.items;
  any = list_any (has_kind_told (codes "<ANY>")) line.pieces.keyed.items;
}

-- the alternatives of the first pair that is no values
abbrev pub first_targets : List RolePairValue → List AlternativeValue
first_targets [] = []
first_targets (pair ∷ pairs) = if is_values (seen_pair pair) then first_targets pairs else pair.alternatives.items

-- the alternatives of the first pair of values
abbrev pub first_values : List RolePairValue → List AlternativeValue
first_values [] = []
first_values (pair ∷ pairs) = if is_values (seen_pair pair) then pair.alternatives.items else first_values pairs

-- an attribute
abbrev pub attribute_kept : File → NamedLineValue → AttributeType
attribute_kept file line = record {
  name = line.name;
  targets = resolved file true (map seen_alternative (first_targets line.pieces.pairs.items));
  values = map (λ one. word_of (seen_alternative one)) (first_values line.pieces.pairs.items);
}

-- the arguments of a line
abbrev pub arguments_kept : File → NamedLineValue → Arguments
arguments_kept file line = arguments_of file (map seen_pair line.pieces.pairs.items)

-- a relation type by its first line, with all its lines
abbrev pub relation_kept : File → List NamedLineValue → NamedLineValue → RelationType
relation_kept file lines line = record {
  name = line.name;
  first = role_at (map seen_pair line.pieces.pairs.items) 0;
  second = role_at (map seen_pair line.pieces.pairs.items) 1;
  equivalence = mark_equivalence (map seen_keyed line.pieces.keyed.items);
  lines = map (arguments_kept file) (filter (λ other. bytes_eq other.name line.name) lines);
}

-- the lines of relation types that no earlier line is of
abbrev pub firsts_kept : File → List NamedLineValue → List NamedLineValue
firsts_kept file lines = filter (λ line. not (stood_before line.number line.name (of_named file.relations))) lines

-- the roles of an event type
unfoldable pub roles_kept : File → TypeLineValue → List Role
roles_kept file line = map (λ pair. role_of file (seen_pair pair)) line.pieces.pairs.items

-- a type line without its roles
abbrev pub bare_type : TypeLineValue → TypeLine
bare_type line = record { number = line.number; depth = line.depth; spaced = line.spaced; gapped = line.gapped; usable = line.usable; name = line.name; pieces = [] }

-- a map from each depth to the place of the last line that stands so deep
abbrev pub FindsDepths : ℕ → List TypeLine → BTreeMap ℕ ℕ → Type 0
FindsDepths first lines places = (depth : ℕ) → get nat_cmp places depth ≡ last_at depth first lines

-- the parent of a line of this depth, by the places of the last lines of each depth
abbrev pub parent_by : BTreeMap ℕ ℕ → ℕ → Option TypeId
parent_by places depth = if depth == 0 then None else option_map (λ place. record { n = place }) (get nat_cmp places (depth - 1))

-- a text whose file has no fault
pub record IsFaultless (text : List ℕ) (file : File) : Type 0 where
  pub same : file ≡ file_of text
  pub says : conf_of text ≡ Ok (configuration_of file)

-- the name of a type line is one
abbrev pub IsTypeNamed : TypeLineValue → Type 0
IsTypeNamed line = name_fault line.name ≡ None

-- the roles of pairs are names
abbrev pub AreRolesNamed : List RolePairValue → Type 0
AreRolesNamed pairs = All (λ pair. name_fault pair.role ≡ None) pairs

-- the roles of an event type are names
abbrev pub HasRolesNamed : TypeLineValue → Type 0
HasRolesNamed line = AreRolesNamed line.pieces.pairs.items

-- alternatives are spelt as names
abbrev pub AreWordsNamed : List AlternativeValue → Type 0
AreWordsNamed alternatives = All (λ one. name_fault (word_of (seen_alternative one)) ≡ None) alternatives

-- the name of an attribute and its values are names
pub record IsAttributeNamed (line : NamedLineValue) : Type 0 where
  pub name : name_fault line.name ≡ None
  pub values : AreWordsNamed (first_values line.pieces.pairs.items)

-- the name of a relation type and its two roles are names
pub record IsRelationNamed (line : NamedLineValue) : Type 0 where
  pub name : name_fault line.name ≡ None
  pub two : 1 < length line.pieces.pairs.items
  pub roles : AreRolesNamed line.pieces.pairs.items
