-- What the bytes of annotation.conf say: a configuration, or the first fault with its line.
use Rattle.std.specs.Prelude.{ℕ, ◌+◌, ◌-◌, ◌==◌, Bool, true, false, not, List, [], ◌∷◌, ◌++◌, length, take, nat_lt, Option, Some, None, Result, Ok, Err, option_map, unwrap_or, bytes_eq, codes, if◌then◌else◌, map, filter, count_by, slice_get}
use Rattle.std.specs.Option.{option_map_or, option_or}
use Rattle.std.specs.List.{list_any, slice_split, range_with_len, flat_map}
use Rattle.std.specs.Str.Lossy.{utf8_valid_len}
use Rattle.type_hierarchy.specs.declared.type_row.TypeRow.{TypeRow}
use Rattle.conf_model.specs.declared.conf_fault.ConfWhat.{ConfWhat}
use Rattle.conf_model.specs.declared.conf_fault.ConfWhat.TheVariants.{NotUtf8, SectionMissing}
use Rattle.conf_model.specs.ConfLines.{Line, Entities}
use Rattle.conf_model.specs.ConfPairs.{Piece, Alternative, count_of}
use Rattle.conf_model.specs.ConfNames.{TypeLine, NamedLine, File, all_held, file_of}
use Rattle.conf_model.specs.ConfFaults.{RolePair, pairs_of, word_of, is_among, names_of, bound_names, of_named, firsts, is_equivalence_line, is_values, keyed_value, is_header, fault_at}
use Rattle.conf_model.specs.Configurations.{Alternatives, Role, Arguments, RelationType, AttributeType, Overlap, Configuration}

-- a fault by its line
pub record Fault : Type 0 where
  pub line : ℕ
  pub what : ConfWhat

-- the places of the names that are among these
abbrev pub places_of : List (List ℕ) → List (List ℕ) → List ℕ
places_of held names = filter (λ place. option_map_or (is_among held) (slice_get names place) false) (range_with_len 0 (length names))

-- alternatives by the places of types, and of relation types where they may stand
abbrev pub resolved : File → Bool → List Alternative → Alternatives
resolved file relations alternatives =
    let holding = all_held file.macros alternatives in
    record {
      entity = holding.entity;
      event = holding.event;
      any = holding.any;
      relation = holding.relation;
      bound = places_of holding.names (names_of (bound_names file));
      between = if relations then places_of holding.names (names_of (of_named (firsts file.relations))) else [];
    }

-- the place of the last of some lines that stands so deep, the first at this place
abbrev pub last_at : ℕ → ℕ → List TypeLine → Option ℕ
last_at depth place [] = None
last_at depth place (line ∷ lines) = option_or (last_at depth (place + 1) lines) (if line.depth == depth then Some place else None)

-- the rows of type lines behind others of their section, whose first is at this place: a parent is the nearest earlier line of depth one less
abbrev pub rows_from : ℕ → Bool → List TypeLine → List TypeLine → List TypeRow
rows_from first event before [] = []
rows_from first event before (line ∷ lines) =
    record {
      name = line.name;
      parent = if line.depth == 0 then None else option_map (λ place. record { n = place }) (last_at (line.depth - 1) first before);
      usable = line.usable;
      event = event;
    } ∷ rows_from first event (before ++ line ∷ []) lines

-- a role of an event type by its pair
abbrev pub role_of : File → RolePair → Role
role_of file pair =
    let count = unwrap_or (count_of pair.mark) (record { least = 1; most = 1 }) in
    record { name = pair.role; least = count.least; most = count.most; targets = resolved file false pair.alternatives }

-- the two arguments of a line, by its pairs
abbrev pub arguments_of : File → List RolePair → Arguments
arguments_of file (first ∷ second ∷ _) = record { first = resolved file false first.alternatives; second = resolved file false second.alternatives }
arguments_of file _ = record { first = resolved file false []; second = resolved file false [] }

-- the name of a role by its place on a line
abbrev pub role_at : List RolePair → ℕ → List ℕ
role_at pairs place = option_map_or (λ pair. pair.role) (slice_get pairs place) []

-- a relation type by its first line, with all its lines in their order
abbrev pub relation_of : File → NamedLine → RelationType
relation_of file line = record {
  name = line.name;
  first = role_at (pairs_of line.pieces) 0;
  second = role_at (pairs_of line.pieces) 1;
  equivalence = is_equivalence_line line.pieces;
  lines = map (λ other. arguments_of file (pairs_of other.pieces)) (filter (λ other. bytes_eq other.name line.name) file.relations);
}

-- an attribute by its line
abbrev pub attribute_of : File → NamedLine → AttributeType
attribute_of file line = record {
  name = line.name;
  targets = resolved file true (flat_map (λ pair. pair.alternatives) (filter (λ pair. not (is_values pair)) (pairs_of line.pieces)));
  values = flat_map (λ pair. map word_of pair.alternatives) (filter is_values (pairs_of line.pieces));
}

-- a kind stands on an overlap line
abbrev pub has_kind : List ℕ → List Piece → Bool
has_kind word pieces = list_any (λ piece. option_map_or (λ value. is_among (slice_split (λ c. c == 124) value) word) (keyed_value (codes "OVL-TYPE") piece) false) pieces

-- an overlap line
abbrev pub overlap_of : File → NamedLine → Overlap
overlap_of file line =
    let arguments = arguments_of file (pairs_of line.pieces) in
    record {
      first = arguments.first;
      second = arguments.second;
      contain = has_kind (codes "contain") line.pieces;
      equal = has_kind (codes "equal") line.pieces;
      cross = has_kind (codes "cross") line.pieces;
      any = has_kind (codes "<ANY>") line.pieces;
    }

-- what a file says that has no fault: TypeIds number the entity types and then the event types, in the order of lines
abbrev pub configuration_of : File → Configuration
configuration_of file = record {
  types = rows_from 0 false [] file.entities ++ rows_from (length file.entities) true [] file.events;
  roles = map (λ line. []) file.entities ++ map (λ line. map (role_of file) (pairs_of line.pieces)) file.events;
  relations = map (relation_of file) (firsts file.relations);
  attributes = map (attribute_of file) file.attributes;
  overlaps = map (overlap_of file) file.overlaps;
}

-- the first of the lines that has a fault
abbrev pub first_fault : File → List Line → Option Fault
first_fault file [] = None
first_fault file (line ∷ lines) =
    option_or (option_map (λ what. record { line = line.number; what = what }) (fault_at file line.number line.place line.kind)) (first_fault file lines)

-- a file without `[entities]` has its fault behind the last line
abbrev pub missing_fault : File → Option Fault
missing_fault file =
    if list_any (λ line. is_header Entities line.kind) file.lines then None
    else Some (record { line = length file.lines + 1; what = SectionMissing })

-- the configuration of a file without fault, or its fault
abbrev pub answer_of : File → Option Fault → Result Configuration Fault
answer_of file None = Ok (configuration_of file)
answer_of file (Some fault) = Err fault

-- what bytes say: bytes that are not UTF-8 have their fault at the line of the first bad byte, before all others
unfoldable pub conf_of : List ℕ → Result Configuration Fault
conf_of bytes =
    if nat_lt (utf8_valid_len bytes) (length bytes)
    then Err (record { line = count_by (λ b. b == 10) (take (utf8_valid_len bytes) bytes) + 1; what = NotUtf8 })
    else answer_of (file_of bytes) (option_or (first_fault (file_of bytes) (file_of bytes).lines) (missing_fault (file_of bytes)))
