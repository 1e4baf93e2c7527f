-- What is at fault with a line of annotation.conf, the least of thirteen numbers first.
use Rattle.std.specs.Prelude.{ℕ, ◌+◌, ◌==◌, ◌||◌, ◌&&◌, Bool, true, false, not, List, [], ◌∷◌, ◌++◌, length, slice_index, slice_get, ◌-◌, nat_lt, nat_le, Option, Some, None, is_some, is_none, bytes_eq, codes, if◌then◌else◌, map, filter, filter_map, find, count_by}
use Rattle.std.specs.Option.{option_map_or}
use Rattle.std.specs.List.{list_any, list_all, slice_split}
use Rattle.mark_base.specs.Names.{name_fault}
use Rattle.conf_model.specs.declared.conf_fault.ConfWhat.{ConfWhat}
use Rattle.conf_model.specs.declared.conf_fault.ConfWhat.TheVariants.{UnknownSection, SectionTwice, OutsideSection, BadIndent, BadName, NameTwice, BadCount, BadArgument, UnknownTypeNamed, UnknownMacro, TooManyTypes}
use Rattle.conf_model.specs.ConfLines.{Section, Place, Before, Nowhere, Within, Kind, Skipped, Header, Macro, Content, is_hyphens, Entities, Relations, Events, Attributes}
use Rattle.conf_model.specs.ConfPairs.{Alternative, Named, Held, Piece, Shapeless, Keyed, Pair, count_of, alternatives_of}
use Rattle.conf_model.specs.ConfNames.{is_section, TypeLine, NamedLine, MacroLine, File, macro_named, is_overlap}

-- the first of some tests that is met tells
abbrev pub first_told : List (Bool × ConfWhat) → Option ConfWhat
first_told [] = None
first_told (test ∷ more) = if test.0 then Some test.1 else first_told more

-- a name by the line that declares it
pub record Declared : Type 0 where
  pub number : ℕ
  pub name : List ℕ

-- the names of type lines, and of other lines
abbrev pub of_types : List TypeLine → List Declared
of_types lines = map (λ line. record { number = line.number; name = line.name }) lines

-- the same of lines that declare anything else
abbrev pub of_named : List NamedLine → List Declared
of_named lines = map (λ line. record { number = line.number; name = line.name }) lines

-- an earlier line declares the name
abbrev pub stood_before : ℕ → List ℕ → List Declared → Bool
stood_before number name declared = list_any (λ one. nat_lt one.number number && bytes_eq one.name name) declared

-- more than so many are declared up to a line
abbrev pub are_past : ℕ → ℕ → List Declared → Bool
are_past most number declared = nat_lt most (count_by (λ one. nat_le one.number number) declared)

-- a name stands in a list
abbrev pub is_among : List (List ℕ) → List ℕ → Bool
is_among names name = list_any (bytes_eq name) names

-- some name of a list stands behind itself
abbrev pub stands_twice : List (List ℕ) → Bool
stands_twice [] = false
stands_twice (name ∷ names) = is_among names name || stands_twice names

-- a word that is no name
abbrev pub is_no_name : List ℕ → Bool
is_no_name word = is_some (name_fault word)

-- a declared name does not begin with `[` either, and is not of hyphens only
abbrev pub is_no_declared : List ℕ → Bool
is_no_declared word = is_no_name word || slice_index word 0 == 91 || is_hyphens word

-- the name of an alternative, and whether it is a macro
abbrev pub word_of : Alternative → List ℕ
word_of (Named name) = name
word_of (Held name) = name

-- an alternative is a macro
abbrev pub is_held : Alternative → Bool
is_held (Named _) = false
is_held (Held _) = true

-- a role with its mark and its alternatives
pub record RolePair : Type 0 where
  pub role : List ℕ
  pub mark : List ℕ
  pub alternatives : List Alternative

-- the role pair of a piece, where it is one
abbrev pub role_pair : Piece → Option RolePair
role_pair Shapeless = None
role_pair (Keyed key value) = None
role_pair (Pair role mark alternatives) = Some (record { role = role; mark = mark; alternatives = alternatives })

-- the role pairs behind a name
abbrev pub pairs_of : List Piece → List RolePair
pairs_of pieces = filter_map role_pair pieces

-- a piece without `:`
abbrev pub is_shapeless : Piece → Bool
is_shapeless Shapeless = true
is_shapeless (Keyed _ _) = false
is_shapeless (Pair _ _ _) = false

-- a pair with this bracketed key, and its value
abbrev pub keyed_value : List ℕ → Piece → Option (List ℕ)
keyed_value key Shapeless = None
keyed_value key (Keyed this value) = if bytes_eq this key then Some value else None
keyed_value key (Pair _ _ _) = None

-- a role or one of its alternatives is no name
abbrev pub names_badly : RolePair → Bool
names_badly pair = is_no_name pair.role || list_any (λ one. is_no_name (word_of one)) pair.alternatives

-- an alternative names what is not among the names that may stand there; a macro, what is declared and may not stand there, since the line of a macro that holds an undeclared name has that fault
abbrev pub is_unknown : List MacroLine → List (List ℕ) → List (List ℕ) → Alternative → Bool
is_unknown macros declared known (Named name) = not (is_among known name)
is_unknown macros declared known (Held name) = option_map_or (λ holding. list_any (λ held. is_among declared held && not (is_among known held)) holding.names) (macro_named macros name) false

-- an alternative is a macro that is not defined, or one that holds all relation types where they may not stand
abbrev pub is_unheld : List MacroLine → Bool → Alternative → Bool
is_unheld macros relations (Named name) = false
is_unheld macros relations (Held name) = option_map_or (λ holding. holding.relation && not relations) (macro_named macros name) true

-- the names of entity and event types
abbrev pub bound_names : File → List Declared
bound_names file = of_types file.entities ++ of_types file.events

-- names without their lines
abbrev pub names_of : List Declared → List (List ℕ)
names_of declared = map (λ one. one.name) declared

-- the names of entity, event and relation types
abbrev pub declared_names : File → List (List ℕ)
declared_names file = names_of (bound_names file ++ of_named file.relations)

-- more than one deeper than the type line before
abbrev pub is_too_deep : ℕ → Option TypeLine → Bool
is_too_deep depth None = nat_lt 0 depth
is_too_deep depth (Some line) = nat_lt (line.depth + 1) depth

-- the last of some lines
abbrev pub last_of : List TypeLine → Option TypeLine
last_of lines = slice_get lines (length lines - 1)

-- the last type line of a section before a line
abbrev pub line_before : ℕ → List TypeLine → Option TypeLine
line_before number lines = last_of (filter (λ line. nat_lt line.number number) lines)

-- the fault of a type line among those of its section; the roles of an event type are its pairs
abbrev pub type_fault : File → List TypeLine → List RolePair → Bool → TypeLine → Option ConfWhat
type_fault file section pairs shapeless line =
    first_told (
    (line.spaced || is_too_deep line.depth (line_before line.number section), BadIndent)
    ∷ (line.gapped || is_no_declared line.name || list_any names_badly pairs, BadName)
    ∷ (stood_before line.number line.name (bound_names file) || stands_twice (map (λ pair. pair.role) pairs), NameTwice)
    ∷ (list_any (λ pair. is_none (count_of pair.mark)) pairs, BadCount)
    ∷ (shapeless, BadArgument)
    ∷ (list_any (λ pair. list_any (is_unknown file.macros (declared_names file) (names_of (bound_names file))) pair.alternatives) pairs, UnknownTypeNamed)
    ∷ (list_any (λ pair. list_any (is_unheld file.macros false) pair.alternatives) pairs, UnknownMacro)
    ∷ (
      are_past 256 line.number (bound_names file)
          || are_past 63 line.number (of_types (filter (λ one. one.usable) (file.entities ++ file.events)))
          || nat_lt 256 (length pairs),
      TooManyTypes,
    )
    ∷ [])

-- a line marks an equivalence
abbrev pub is_equivalence_line : List Piece → Bool
is_equivalence_line pieces = list_any (λ piece. option_map_or (λ value. bytes_eq value (codes "symmetric-transitive")) (keyed_value (codes "REL-TYPE") piece) false) pieces

-- the same words in the same order
abbrev pub same_words : List (List ℕ) → List (List ℕ) → Bool
same_words [] [] = true
same_words (a ∷ as_) (b ∷ bs) = bytes_eq a b && same_words as_ bs
same_words _ _ = false

-- both or neither
abbrev pub same_truth : Bool → Bool → Bool
same_truth true b = b
same_truth false b = not b

-- a line has the roles of the first line of its relation type, in their order, and its mark of an equivalence
abbrev pub agrees : NamedLine → NamedLine → Bool
agrees line first =
    same_words (map (λ pair. pair.role) (pairs_of first.pieces)) (map (λ pair. pair.role) (pairs_of line.pieces))
    && same_truth (is_equivalence_line first.pieces) (is_equivalence_line line.pieces)

-- the first line of a relation type
abbrev pub first_line : List NamedLine → List ℕ → Option NamedLine
first_line lines name = find (λ line. bytes_eq line.name name) lines

-- exactly two pairs of different roles, without marks
abbrev pub is_binary : List RolePair → Bool
is_binary (first ∷ second ∷ []) = length first.mark == 0 && length second.mark == 0 && not (bytes_eq first.role second.role)
is_binary _ = false

-- the first lines of relation types, each of which brings one
abbrev pub firsts : List NamedLine → List NamedLine
firsts lines = filter (λ line. not (stood_before line.number line.name (of_named lines))) lines

-- the fault of a line of a relation type
abbrev pub relation_fault : File → NamedLine → Option ConfWhat
relation_fault file line =
    let pairs = pairs_of line.pieces in
    first_told (
    (is_no_declared line.name || list_any names_badly pairs, BadName)
    ∷ (list_any (λ pair. is_none (count_of pair.mark)) pairs, BadCount)
    ∷ (list_any is_shapeless line.pieces || not (is_binary pairs) || not (option_map_or (agrees line) (first_line file.relations line.name) true), BadArgument)
    ∷ (list_any (λ pair. list_any (is_unknown file.macros (declared_names file) (names_of (bound_names file))) pair.alternatives) pairs, UnknownTypeNamed)
    ∷ (list_any (λ pair. list_any (is_unheld file.macros false) pair.alternatives) pairs, UnknownMacro)
    ∷ (are_past 256 line.number (of_named (firsts file.relations)), TooManyTypes)
    ∷ [])

-- the kinds of an overlap line: `contain`, `equal`, `cross` and `<ANY>`
abbrev pub is_kind : List ℕ → Bool
is_kind word = bytes_eq word (codes "contain") || bytes_eq word (codes "equal") || bytes_eq word (codes "cross") || bytes_eq word (codes "<ANY>")

-- kinds that `|` separates
abbrev pub are_kinds : List ℕ → Bool
are_kinds value = list_all is_kind (slice_split (λ c. c == 124) value)

-- exactly one pair of kinds
abbrev pub has_kinds : List (List ℕ) → Bool
has_kinds (value ∷ []) = are_kinds value
has_kinds _ = false

-- a pair of kinds
abbrev pub is_kinds : Piece → Bool
is_kinds Shapeless = false
is_kinds (Keyed key value) = bytes_eq key (codes "OVL-TYPE")
is_kinds (Pair _ _ _) = false

-- a role pair
abbrev pub is_pair : Piece → Bool
is_pair Shapeless = false
is_pair (Keyed _ _) = false
is_pair (Pair _ _ _) = true

-- a role pair stands behind a pair of kinds
abbrev pub kinds_lead : List Piece → Bool
kinds_lead [] = false
kinds_lead (piece ∷ pieces) = is_kinds piece && list_any is_pair pieces || kinds_lead pieces

-- `Arg1` and then `Arg2`, without marks
abbrev pub are_arguments : List RolePair → Bool
are_arguments (first ∷ second ∷ []) =
    length first.mark == 0 && length second.mark == 0 && bytes_eq first.role (codes "Arg1") && bytes_eq second.role (codes "Arg2")
are_arguments _ = false

-- the fault of an overlap line: `Arg1`, `Arg2` and the kinds stand in this order
abbrev pub overlap_fault : File → NamedLine → Option ConfWhat
overlap_fault file line =
    let pairs = pairs_of line.pieces in
    first_told (
    (list_any names_badly pairs, BadName)
    ∷ (list_any (λ pair. is_none (count_of pair.mark)) pairs, BadCount)
    ∷ (list_any is_shapeless line.pieces || not (are_arguments pairs) || not (has_kinds (filter_map (keyed_value (codes "OVL-TYPE")) line.pieces)) || kinds_lead line.pieces, BadArgument)
    ∷ (list_any (λ pair. list_any (is_unknown file.macros (declared_names file) (names_of (bound_names file))) pair.alternatives) pairs, UnknownTypeNamed)
    ∷ (list_any (λ pair. list_any (is_unheld file.macros false) pair.alternatives) pairs, UnknownMacro)
    ∷ [])

-- the pair of an attribute's values, whose alternatives are names
abbrev pub is_values : RolePair → Bool
is_values pair = bytes_eq pair.role (codes "Value")

-- a role, a target or a value is no name
abbrev pub values_badly : RolePair → Bool
values_badly pair = if is_values pair then list_any (λ one. is_held one || is_no_name (word_of one)) pair.alternatives else names_badly pair

-- `Arg`, and then `Value` or nothing, without marks
abbrev pub is_attribute : List RolePair → Bool
is_attribute (arg ∷ []) = length arg.mark == 0 && bytes_eq arg.role (codes "Arg")
is_attribute (arg ∷ value ∷ []) = length arg.mark == 0 && length value.mark == 0 && bytes_eq arg.role (codes "Arg") && is_values value
is_attribute _ = false

-- the fault of an attribute line
abbrev pub attribute_fault : File → NamedLine → Option ConfWhat
attribute_fault file line =
    let pairs = pairs_of line.pieces in
    let targets = filter (λ pair. not (is_values pair)) pairs in
    let values = filter is_values pairs in
    let known = declared_names file in
    first_told (
    (is_no_declared line.name || list_any values_badly pairs, BadName)
    ∷ (stood_before line.number line.name (of_named file.attributes) || list_any (λ pair. stands_twice (map word_of pair.alternatives)) values, NameTwice)
    ∷ (list_any (λ pair. is_none (count_of pair.mark)) pairs, BadCount)
    ∷ (list_any is_shapeless line.pieces || not (is_attribute pairs), BadArgument)
    ∷ (list_any (λ pair. list_any (is_unknown file.macros known known) pair.alternatives) targets, UnknownTypeNamed)
    ∷ (list_any (λ pair. list_any (is_unheld file.macros true) pair.alternatives) targets, UnknownMacro)
    ∷ (are_past 256 line.number (of_named file.attributes) || list_any (λ pair. nat_lt 256 (length pair.alternatives)) values, TooManyTypes)
    ∷ [])

-- a macro may name types and relation types of any line, and macros of earlier lines
abbrev pub macro_fault : File → ℕ → List ℕ → List Alternative → Option ConfWhat
macro_fault file number name alternatives =
    let earlier = filter (λ macro. nat_lt macro.number number) file.macros in
    first_told (
    (is_no_name name || list_any (λ one. is_no_name (word_of one)) alternatives, BadName)
    ∷ (is_some (macro_named earlier name), NameTwice)
    ∷ (list_any (is_unknown earlier (declared_names file) (declared_names file)) alternatives, UnknownTypeNamed)
    ∷ (list_any (is_unheld earlier true) alternatives, UnknownMacro)
    ∷ [])

-- the fault of the line of a number among some lines
abbrev pub at_number : {X : Type 0} → (X → ℕ) → ℕ → List X → (X → Option ConfWhat) → Option ConfWhat
at_number number_of number lines fault = option_map_or fault (find (λ line. number_of line == number) lines) None

-- the fault of any other line in a section
abbrev pub content_fault : File → ℕ → Section → Option ConfWhat
content_fault file number Entities = at_number (λ line. line.number) number file.entities (type_fault file file.entities [] false)
content_fault file number Events =
    at_number (λ line. line.number) number file.events (λ line. type_fault file file.events (pairs_of line.pieces) (list_any is_shapeless line.pieces) line)
content_fault file number Relations =
    at_number (λ line. line.number) number (file.relations ++ file.overlaps) (λ line. if is_overlap line then overlap_fault file line else relation_fault file line)
content_fault file number Attributes = at_number (λ line. line.number) number file.attributes (attribute_fault file)

-- a section line of this section
abbrev pub is_header : Section → Kind → Bool
is_header section (Header (Some this)) = is_section section this
is_header section _ = false

-- the section stood on an earlier section line
abbrev pub opened_before : File → ℕ → Section → Bool
opened_before file number section = list_any (λ line. nat_lt line.number number && is_header section line.kind) file.lines

-- the fault of a line by its place and its kind
abbrev pub fault_at : File → ℕ → Place → Kind → Option ConfWhat
fault_at file number place Skipped = None
fault_at file number place (Header None) = Some UnknownSection
fault_at file number place (Header (Some section)) = if opened_before file number section then Some SectionTwice else None
fault_at file number place (Macro name cs) = macro_fault file number name (alternatives_of cs)
fault_at file number Before (Content cs) = Some OutsideSection
fault_at file number Nowhere (Content cs) = None
fault_at file number (Within section) (Content cs) = content_fault file number section
