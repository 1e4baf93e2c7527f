-- The fault of a line by the values that are kept of it (private calls only).
use Rattle.std.specs.Prelude.{ℕ, ◌+◌, ◌||◌, ◌&&◌, ◌++◌, Bool, true, false, not, List, [], ◌∷◌, length, take, map, filter, nat_lt, Option, Some, None, is_some, is_none, bytes_eq, codes}
use Rattle.std.specs.Option.{option_map_or}
use Rattle.std.specs.List.{list_any}
use Rattle.conf_model.specs.declared.conf_fault.ConfWhat.{ConfWhat}
use Rattle.conf_model.specs.declared.conf_fault.ConfWhat.TheVariants.{BadIndent, BadName, NameTwice, BadCount, BadArgument, UnknownTypeNamed, UnknownMacro, TooManyTypes}
use Rattle.annotation_conf.specs.declared.pieces.Alternative.{Alternative as AlternativeValue}
use Rattle.annotation_conf.specs.declared.pieces.Alternative.TheVariants.{Named as NamedValue, Held as HeldValue}
use Rattle.annotation_conf.specs.declared.pieces.RolePair.{RolePair as RolePairValue}
use Rattle.annotation_conf.specs.declared.pieces.KeyedPair.{KeyedPair as KeyedPairValue}
use Rattle.annotation_conf.specs.declared.file.TypeLine.{TypeLine as TypeLineValue}
use Rattle.annotation_conf.specs.declared.file.NamedLine.{NamedLine as NamedLineValue}
use Rattle.annotation_conf.specs.declared.file.MacroLine.{MacroLine as MacroLineValue}
use Rattle.conf_model.specs.ConfPairs.{count_of}
use Rattle.conf_model.specs.ConfNames.{File, macro_named}
use Rattle.conf_model.specs.ConfFaults.{first_told, names_badly, values_badly, is_values, stands_twice, is_no_name, is_no_declared, word_of, is_unknown, is_unheld, names_of, bound_names, of_types, of_named, firsts, stood_before, declared_names, is_among, are_past, is_binary, are_arguments, is_attribute, has_kinds, same_words, same_truth, first_line}
use Rattle.annotation_conf.specs.FileKept.{KeyedPair, KeptNamed, kept_named}
use Rattle.annotation_conf.specs.FileShows.{seen_alternative, seen_pair, seen_named}

-- more than one deeper than the type line before
abbrev pub too_deep : ℕ → Option ℕ → Bool
too_deep depth None = nat_lt 0 depth
too_deep depth (Some above) = nat_lt (above + 1) depth

-- some role or alternative is no name
abbrev pub named_badly : List RolePairValue → Bool
named_badly pairs = list_any (λ pair. names_badly (seen_pair pair)) pairs

-- some mark is no count
abbrev pub marked_badly : List RolePairValue → Bool
marked_badly pairs = list_any (λ pair. is_none (count_of (seen_pair pair).mark)) pairs

-- some alternative holds a name of no type
abbrev pub names_no_type : File → List RolePairValue → Bool
names_no_type file pairs =
    list_any (λ pair. list_any (λ one. is_unknown file.macros (declared_names file) (names_of (bound_names file)) (seen_alternative one)) pair.alternatives.items) pairs

-- some alternative is a macro that is not defined, or holds relation types
abbrev pub unheld_in : File → List RolePairValue → Bool
unheld_in file pairs = list_any (λ pair. list_any (λ one. is_unheld file.macros false (seen_alternative one)) pair.alternatives.items) pairs

-- the fault of a type line behind one of this depth
unfoldable pub type_told : File → Option ℕ → List RolePairValue → Bool → TypeLineValue → Option ConfWhat
type_told file before pairs shapeless line =
    first_told (
    (line.spaced || too_deep line.depth before, BadIndent)
    ∷ (line.gapped || is_no_declared line.name || named_badly pairs, BadName)
    ∷ (stood_before line.number line.name (bound_names file) || stands_twice (map (λ pair. (seen_pair pair).role) pairs), NameTwice)
    ∷ (marked_badly pairs, BadCount)
    ∷ (shapeless, BadArgument)
    ∷ (names_no_type file pairs, UnknownTypeNamed)
    ∷ (unheld_in file pairs, UnknownMacro)
    ∷ (
      are_past 256 line.number (bound_names file)
          || are_past 63 line.number (of_types (filter (λ one. one.usable) (file.entities ++ file.events)))
          || nat_lt 256 (length pairs),
      TooManyTypes,
    )
    ∷ [])

-- pairs with a bracketed key mark an equivalence
abbrev pub mark_equivalence : List KeyedPair → Bool
mark_equivalence keyed = list_any (λ pair. bytes_eq pair.key (codes "REL-TYPE") && bytes_eq pair.value (codes "symmetric-transitive")) keyed

-- two lines of a relation type have the same roles in the same order, and both or neither mark an equivalence
abbrev pub agree_kept : KeptNamed → KeptNamed → Bool
agree_kept first line =
    same_words (map (λ pair. pair.role) first.behind.pairs) (map (λ pair. pair.role) line.behind.pairs)
    && same_truth (mark_equivalence first.behind.keyed) (mark_equivalence line.behind.keyed)

-- a line agrees with the first line of its relation type
abbrev pub agrees_with_first : File → NamedLineValue → Bool
agrees_with_first file line = option_map_or (λ first. agree_kept (kept_named first) (seen_named line)) (first_line file.relations line.name) true

-- the fault of a line of a relation type
unfoldable pub relation_told : File → NamedLineValue → Option ConfWhat
relation_told file line =
    let pairs = line.pieces.pairs.items in
    first_told (
    (is_no_declared line.name || named_badly pairs, BadName)
    ∷ (marked_badly pairs, BadCount)
    ∷ (line.pieces.shapeless || not (is_binary (map seen_pair pairs)) || not (agrees_with_first file line), BadArgument)
    ∷ (names_no_type file pairs, UnknownTypeNamed)
    ∷ (unheld_in file pairs, UnknownMacro)
    ∷ (are_past 256 line.number (of_named (firsts file.relations)), TooManyTypes)
    ∷ [])

-- the values of the pairs with the key of kinds
abbrev pub kinds_in : List KeyedPairValue → List (List ℕ)
kinds_in keyed = map (λ pair. pair.value.items) (filter (λ pair. bytes_eq pair.key (codes "OVL-TYPE")) keyed)

-- the fault of an overlap line
unfoldable pub overlap_told : File → NamedLineValue → Option ConfWhat
overlap_told file line =
    let pairs = line.pieces.pairs.items in
    first_told (
    (named_badly pairs, BadName)
    ∷ (marked_badly pairs, BadCount)
    ∷ (line.pieces.shapeless || not (are_arguments (map seen_pair pairs)) || not (has_kinds (kinds_in line.pieces.keyed.items)) || line.pieces.late, BadArgument)
    ∷ (names_no_type file pairs, UnknownTypeNamed)
    ∷ (unheld_in file pairs, UnknownMacro)
    ∷ [])

-- a pair of values in which a value stands twice
abbrev pub values_twice : RolePairValue → Bool
values_twice pair = is_values (seen_pair pair) && stands_twice (map (λ one. word_of (seen_alternative one)) pair.alternatives.items)

-- an alternative names no type and no relation type; a macro that holds such a name has its fault on its own line
abbrev pub is_undeclared : File → AlternativeValue → Bool
is_undeclared file (NamedValue name) = not (is_among (declared_names file) name)
is_undeclared file (HeldValue name) = false

-- a pair of targets that names no type and no relation type
abbrev pub target_names_nothing : File → RolePairValue → Bool
target_names_nothing file pair =
    not (is_values (seen_pair pair)) && list_any (is_undeclared file) pair.alternatives.items

-- a pair of targets with a macro that is not defined
abbrev pub target_unheld : File → RolePairValue → Bool
target_unheld file pair = not (is_values (seen_pair pair)) && list_any (λ one. is_unheld file.macros true (seen_alternative one)) pair.alternatives.items

-- a pair of more than 256 values
abbrev pub has_many_values : RolePairValue → Bool
has_many_values pair = is_values (seen_pair pair) && nat_lt 256 (length pair.alternatives.items)

-- some target is a name of no type and no relation type
unfoldable pub targets_name_nothing : File → List RolePairValue → Bool
targets_name_nothing file pairs = list_any (λ pair. target_names_nothing file pair) pairs

-- some target is a macro that is not defined
unfoldable pub targets_unheld : File → List RolePairValue → Bool
targets_unheld file pairs = list_any (λ pair. target_unheld file pair) pairs

-- some pair has more than 256 values
unfoldable pub many_values_in : List RolePairValue → Bool
many_values_in pairs = list_any has_many_values pairs

-- the fault of an attribute line
unfoldable pub attribute_told : File → NamedLineValue → Option ConfWhat
attribute_told file line =
    let pairs = line.pieces.pairs.items in
    first_told (
    (is_no_declared line.name || list_any (λ pair. values_badly (seen_pair pair)) pairs, BadName)
    ∷ (stood_before line.number line.name (of_named file.attributes) || list_any values_twice pairs, NameTwice)
    ∷ (marked_badly pairs, BadCount)
    ∷ (line.pieces.shapeless || not (is_attribute (map seen_pair pairs)), BadArgument)
    ∷ (targets_name_nothing file pairs, UnknownTypeNamed)
    ∷ (targets_unheld file pairs, UnknownMacro)
    ∷ (are_past 256 line.number (of_named file.attributes) || many_values_in pairs, TooManyTypes)
    ∷ [])

-- the fault of the line of a macro behind so many others
unfoldable pub macro_told : File → ℕ → MacroLineValue → Option ConfWhat
macro_told file count line =
    first_told (
    (is_no_name line.name || list_any (λ one. is_no_name (word_of (seen_alternative one))) line.alternatives.items, BadName)
    ∷ (is_some (macro_named (take count file.macros) line.name), NameTwice)
    ∷ (list_any (is_undeclared file) line.alternatives.items, UnknownTypeNamed)
    ∷ (list_any (λ one. is_unheld (take count file.macros) true (seen_alternative one)) line.alternatives.items, UnknownMacro)
    ∷ [])
