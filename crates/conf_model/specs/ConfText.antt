-- The canonical text of a configuration.
use Rattle.std.specs.Prelude.{ℕ, ◌==◌, ◌&&◌, Bool, true, false, not, List, [], ◌∷◌, ◌++◌, length, nat_lt, if◌then◌else◌, map, filter, decimal, codes, replicate, slice_get, bytes_eq}
use Rattle.std.specs.Option.{option_map_or}
use Rattle.std.specs.List.{list_any, join_with_byte, flat_map, enumerate_from}
use Rattle.type_hierarchy.specs.declared.type_row.TypeRow.{TypeRow}
pub use Rattle.type_hierarchy.specs.TypeTrees.{depth_by}
use Rattle.conf_model.specs.Configurations.{Alternatives, Role, Arguments, RelationType, AttributeType, Overlap, Configuration}

-- pieces with a comma and a space between each two
abbrev pub with_commas : List (List ℕ) → List ℕ
with_commas [] = []
with_commas (piece ∷ []) = piece
with_commas (piece ∷ next ∷ more) = piece ++ codes ", " ++ with_commas (next ∷ more)

-- a word where something holds
abbrev pub where_so : Bool → List ℕ → List (List ℕ)
where_so so word = if so then word ∷ [] else []

-- the name of a type and of a relation type by its place
abbrev pub type_name_at : Configuration → ℕ → List ℕ
type_name_at conf place = option_map_or (λ row. row.name) (slice_get conf.types place) []

-- the name of a relation type by its place
abbrev pub relation_name_at : Configuration → ℕ → List ℕ
relation_name_at conf place = option_map_or (λ relation. relation.name) (slice_get conf.relations place) []

-- one of some types has a name
abbrev pub has_type_named : Configuration → List ℕ → List ℕ → Bool
has_type_named conf places name = list_any (λ place. bytes_eq name (type_name_at conf place)) places

-- the relation types by name, without those whose name a type by name has too: such a name is written once
abbrev pub named_apart : Configuration → Alternatives → List ℕ
named_apart conf named = filter (λ place. not (has_type_named conf named.bound (relation_name_at conf place))) named.between

-- alternatives: the built-in macros, then types, then relation types, each name once, joined by `|`
abbrev pub alternatives_text : Configuration → Alternatives → List ℕ
alternatives_text conf named =
    join_with_byte 124 (where_so named.entity (codes "<ENTITY>") ++ where_so named.event (codes "<EVENT>") ++ where_so named.any (codes "<ANY>")
    ++ where_so named.relation (codes "<RELATION>") ++ map (type_name_at conf) named.bound ++ map (relation_name_at conf) (named_apart conf named))

-- a count in braces, or two with a hyphen between
abbrev pub braces_text : ℕ → ℕ → List ℕ
braces_text least most = if least == most then codes "{" ++ decimal least ++ codes "}" else codes "{" ++ decimal least ++ codes "-" ++ decimal most ++ codes "}"

-- a mark from its two counts
abbrev pub mark_text : ℕ → ℕ → List ℕ
mark_text least most =
    if least == 1 && most == 1 then [] else if least == 0 && most == 1 then codes "?"
    else if least == 0 && most == 4294967295 then codes "*" else if least == 1 && most == 4294967295 then codes "+"
    else braces_text least most

-- a role and its alternatives
abbrev pub pair_text : Configuration → List ℕ → Alternatives → List ℕ
pair_text conf role named = role ++ codes ":" ++ alternatives_text conf named

-- a role of an event type with its mark
abbrev pub role_text : Configuration → Role → List ℕ
role_text conf role = role.name ++ mark_text role.least role.most ++ codes ":" ++ alternatives_text conf role.targets

-- what stands behind a name: one TAB and its pairs, where there are pairs
abbrev pub pairs_text : List (List ℕ) → List ℕ
pairs_text pairs = if length pairs == 0 then [] else codes "\t" ++ with_commas pairs

-- a name and its pairs
abbrev pub line_text : List ℕ → List (List ℕ) → List ℕ
line_text name pairs = name ++ pairs_text pairs ++ codes "\n"

-- the line of a type: TABs for its depth, `!` where annotations may not have it, its name and its roles
abbrev pub type_text : Configuration → ℕ × TypeRow → List ℕ
type_text conf placed =
    replicate (depth_by (length conf.types) conf.types placed.0) 9 ++ (if placed.1.usable then [] else codes "!")
    ++ line_text placed.1.name (map (role_text conf) (option_map_or (λ roles. roles) (slice_get conf.roles placed.0) []))

-- a line of a relation type
abbrev pub arguments_text : Configuration → RelationType → Arguments → List ℕ
arguments_text conf relation line =
    line_text relation.name (pair_text conf relation.first line.first ∷ pair_text conf relation.second line.second
    ∷ where_so relation.equivalence (codes "<REL-TYPE>:symmetric-transitive"))

-- the lines of a relation type
abbrev pub relation_text : Configuration → RelationType → List ℕ
relation_text conf relation = flat_map (arguments_text conf relation) relation.lines

-- the kinds of an overlap line
abbrev pub kinds_text : Overlap → List ℕ
kinds_text line =
    join_with_byte 124 (where_so line.contain (codes "contain") ++ where_so line.equal (codes "equal") ++ where_so line.cross (codes "cross") ++ where_so line.any (codes "<ANY>"))

-- an overlap line
abbrev pub overlap_text : Configuration → Overlap → List ℕ
overlap_text conf line =
    line_text (codes "<OVERLAP>") (pair_text conf (codes "Arg1") line.first ∷ pair_text conf (codes "Arg2") line.second ∷ (codes "<OVL-TYPE>:" ++ kinds_text line) ∷ [])

-- the line of an attribute
abbrev pub attribute_text : Configuration → AttributeType → List ℕ
attribute_text conf attribute =
    line_text attribute.name (pair_text conf (codes "Arg") attribute.targets
    ∷ where_so (nat_lt 0 (length attribute.values)) (codes "Value:" ++ join_with_byte 124 attribute.values))

-- the four sections
unfoldable pub conf_text : Configuration → List ℕ
conf_text conf =
    codes "[entities]\n" ++ flat_map (type_text conf) (filter (λ placed. if placed.1.event then false else true) (enumerate_from 0 conf.types))
    ++ codes "[relations]\n" ++ flat_map (relation_text conf) conf.relations ++ flat_map (overlap_text conf) conf.overlaps
    ++ codes "[events]\n" ++ flat_map (type_text conf) (filter (λ placed. placed.1.event) (enumerate_from 0 conf.types))
    ++ codes "[attributes]\n" ++ flat_map (attribute_text conf) conf.attributes
