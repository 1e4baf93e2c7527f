-- What a line without fault keeps: each test of its section is false.
use Rattle.std.proofs.Common.{◌≡◌, ℕ, ◌||◌, Bool, true, false, not, List, [], ◌∷◌, ◌++◌, length, map, filter, filter_map, nat_lt, None, is_none, is_some, codes, refl, sym}
use Rattle.std.specs.Option.{option_map_or}
use Rattle.std.specs.List.{AllByRecursion as Each, list_any}
use Rattle.std.proofs.lemmas.Bool.{or_parts}
use Rattle.std.proofs.lemmas.Option.{none-some}
use Rattle.conf_model.specs.declared.conf_fault.ConfWhat.{ConfWhat}
use Rattle.conf_model.specs.declared.conf_fault.ConfWhat.TheVariants.{BadIndent, BadName, NameTwice, BadCount, BadArgument, UnknownTypeNamed, UnknownMacro, TooManyTypes}
use Rattle.conf_model.specs.ConfPairs.{Alternative, count_of}
use Rattle.conf_model.specs.ConfNames.{TypeLine, NamedLine, File, macro_named}
use Rattle.conf_model.specs.ConfFaults.{first_told, RolePair, pairs_of, is_too_deep, line_before, is_no_name, is_no_declared, names_badly, stood_before, bound_names, stands_twice, is_unknown, is_unheld, declared_names, kinds_lead, names_of, of_types, of_named, are_past, is_shapeless, is_binary, agrees, first_line, firsts, are_arguments, has_kinds, keyed_value, values_badly, is_values, is_attribute, word_of, type_fault, relation_fault, overlap_fault, attribute_fault, macro_fault}

-- where no test tells, each is false
pub untold : (tests : List (Bool × ConfWhat)) → first_told tests ≡ None → Each (λ test. test.0 ≡ false) tests
untold [] e = tt
untold ((true, what) ∷ more) e = absurd (none-some what (sym e))
untold ((false, what) ∷ more) e = (refl, untold more e)

-- alternatives that name what may stand
pub record AreKnown (file : File) (names : List (List ℕ)) (relations : Bool) (pairs : List RolePair) : Type 0 where
  pub known : list_any (λ pair. list_any (is_unknown file.macros (declared_names file) names) pair.alternatives) pairs ≡ false
  pub held : list_any (λ pair. list_any (is_unheld file.macros relations) pair.alternatives) pairs ≡ false

-- the line of a type
pub record KeepsType (file : File) (section : List TypeLine) (pairs : List RolePair) (shapeless : Bool) (line : TypeLine) : Type 0 where
  pub spaced : line.spaced ≡ false
  pub deep : is_too_deep line.depth (line_before line.number section) ≡ false
  pub name : is_no_declared line.name ≡ false
  pub names : list_any names_badly pairs ≡ false
  pub once : stood_before line.number line.name (bound_names file) ≡ false
  pub roles : stands_twice (map (λ pair. pair.role) pairs) ≡ false
  pub counts : list_any (λ pair. is_none (count_of pair.mark)) pairs ≡ false
  pub shaped : shapeless ≡ false
  pub alternatives : AreKnown file (names_of (bound_names file)) false pairs
  pub few : are_past 256 line.number (bound_names file) ≡ false
  pub usable : are_past 63 line.number (of_types (filter (λ one. one.usable) (file.entities ++ file.events))) ≡ false
  pub roles_few : nat_lt 256 (length pairs) ≡ false

pub keeps_type : (file : File) (section : List TypeLine) (pairs : List RolePair) (shapeless : Bool) (line : TypeLine) → type_fault file section pairs shapeless line ≡ None
    → KeepsType file section pairs shapeless line
keeps_type file section pairs shapeless line e =
    let t = untold (
    (line.spaced || is_too_deep line.depth (line_before line.number section), BadIndent)
    ∷ (line.gapped || is_no_declared line.name || list_any names_badly pairs, BadName)
    ∷ (stood_before line.number line.name (bound_names file) || stands_twice (map (λ pair. pair.role) pairs), NameTwice)
    ∷ (list_any (λ pair. is_none (count_of pair.mark)) pairs, BadCount)
    ∷ (shapeless, BadArgument)
    ∷ (list_any (λ pair. list_any (is_unknown file.macros (declared_names file) (names_of (bound_names file))) pair.alternatives) pairs, UnknownTypeNamed)
    ∷ (list_any (λ pair. list_any (is_unheld file.macros false) pair.alternatives) pairs, UnknownMacro)
    ∷ (are_past 256 line.number (bound_names file) || are_past 63 line.number (of_types (filter (λ one. one.usable) (file.entities ++ file.events))) || nat_lt 256 (length pairs), TooManyTypes)
    ∷ []) e in
    let indent = or_parts line.spaced (is_too_deep line.depth (line_before line.number section)) t.0 in
    let named = or_parts (line.gapped || is_no_declared line.name) (list_any names_badly pairs) t.1.0 in
    let twice = or_parts (stood_before line.number line.name (bound_names file)) (stands_twice (map (λ pair. pair.role) pairs)) t.1.1.0 in
    let many = or_parts (are_past 256 line.number (bound_names file) || are_past 63 line.number (of_types (filter (λ one. one.usable) (file.entities ++ file.events)))) (nat_lt 256 (length pairs)) t.1.1.1.1.1.1.1.0 in
    let past = or_parts (are_past 256 line.number (bound_names file)) (are_past 63 line.number (of_types (filter (λ one. one.usable) (file.entities ++ file.events)))) many.0 in
    record {
      spaced = indent.0;
      deep = indent.1;
      name = (or_parts line.gapped (is_no_declared line.name) named.0).1;
      names = named.1;
      once = twice.0;
      roles = twice.1;
      counts = t.1.1.1.0;
      shaped = t.1.1.1.1.0;
      alternatives = record { known = t.1.1.1.1.1.0; held = t.1.1.1.1.1.1.0 };
      few = past.0;
      usable = past.1;
      roles_few = many.1;
    }

-- the line of a relation type
pub record KeepsRelation (file : File) (line : NamedLine) : Type 0 where
  pub name : is_no_declared line.name ≡ false
  pub names : list_any names_badly (pairs_of line.pieces) ≡ false
  pub counts : list_any (λ pair. is_none (count_of pair.mark)) (pairs_of line.pieces) ≡ false
  pub shaped : list_any is_shapeless line.pieces ≡ false
  pub binary : not (is_binary (pairs_of line.pieces)) ≡ false
  pub agreed : not (option_map_or (agrees line) (first_line file.relations line.name) true) ≡ false
  pub alternatives : AreKnown file (names_of (bound_names file)) false (pairs_of line.pieces)
  pub few : are_past 256 line.number (of_named (firsts file.relations)) ≡ false

pub keeps_relation : (file : File) (line : NamedLine) → relation_fault file line ≡ None → KeepsRelation file line
keeps_relation file line e =
    let pairs = pairs_of line.pieces in
    let t = untold (
    (is_no_declared line.name || list_any names_badly pairs, BadName)
    ∷ (list_any (λ pair. is_none (count_of pair.mark)) pairs, BadCount)
    ∷ (list_any is_shapeless line.pieces || not (is_binary pairs) || not (option_map_or (agrees line) (first_line file.relations line.name) true), BadArgument)
    ∷ (list_any (λ pair. list_any (is_unknown file.macros (declared_names file) (names_of (bound_names file))) pair.alternatives) pairs, UnknownTypeNamed)
    ∷ (list_any (λ pair. list_any (is_unheld file.macros false) pair.alternatives) pairs, UnknownMacro)
    ∷ (are_past 256 line.number (of_named (firsts file.relations)), TooManyTypes)
    ∷ []) e in
    let named = or_parts (is_no_declared line.name) (list_any names_badly pairs) t.0 in
    let shape = or_parts (list_any is_shapeless line.pieces || not (is_binary pairs)) (not (option_map_or (agrees line) (first_line file.relations line.name) true)) t.1.1.0 in
    let pieces = or_parts (list_any is_shapeless line.pieces) (not (is_binary pairs)) shape.0 in
    record {
      name = named.0;
      names = named.1;
      counts = t.1.0;
      shaped = pieces.0;
      binary = pieces.1;
      agreed = shape.1;
      alternatives = record { known = t.1.1.1.0; held = t.1.1.1.1.0 };
      few = t.1.1.1.1.1.0;
    }

-- an overlap line
pub record KeepsOverlap (file : File) (line : NamedLine) : Type 0 where
  pub names : list_any names_badly (pairs_of line.pieces) ≡ false
  pub counts : list_any (λ pair. is_none (count_of pair.mark)) (pairs_of line.pieces) ≡ false
  pub shaped : list_any is_shapeless line.pieces ≡ false
  pub arguments : not (are_arguments (pairs_of line.pieces)) ≡ false
  pub kinds : not (has_kinds (filter_map (keyed_value (codes "OVL-TYPE")) line.pieces)) ≡ false
  pub alternatives : AreKnown file (names_of (bound_names file)) false (pairs_of line.pieces)

pub keeps_overlap : (file : File) (line : NamedLine) → overlap_fault file line ≡ None → KeepsOverlap file line
keeps_overlap file line e =
    let pairs = pairs_of line.pieces in
    let t = untold (
    (list_any names_badly pairs, BadName)
    ∷ (list_any (λ pair. is_none (count_of pair.mark)) pairs, BadCount)
    ∷ (list_any is_shapeless line.pieces || not (are_arguments pairs) || not (has_kinds (filter_map (keyed_value (codes "OVL-TYPE")) line.pieces)) || kinds_lead line.pieces, BadArgument)
    ∷ (list_any (λ pair. list_any (is_unknown file.macros (declared_names file) (names_of (bound_names file))) pair.alternatives) pairs, UnknownTypeNamed)
    ∷ (list_any (λ pair. list_any (is_unheld file.macros false) pair.alternatives) pairs, UnknownMacro)
    ∷ []) e in
    let ordered = or_parts (list_any is_shapeless line.pieces || not (are_arguments pairs) || not (has_kinds (filter_map (keyed_value (codes "OVL-TYPE")) line.pieces))) (kinds_lead line.pieces) t.1.1.0 in
    let shape = or_parts (list_any is_shapeless line.pieces || not (are_arguments pairs)) (not (has_kinds (filter_map (keyed_value (codes "OVL-TYPE")) line.pieces))) ordered.0 in
    let pieces = or_parts (list_any is_shapeless line.pieces) (not (are_arguments pairs)) shape.0 in
    record {
      names = t.0;
      counts = t.1.0;
      shaped = pieces.0;
      arguments = pieces.1;
      kinds = shape.1;
      alternatives = record { known = t.1.1.1.0; held = t.1.1.1.1.0 };
    }

-- the line of an attribute
pub record KeepsAttribute (file : File) (line : NamedLine) : Type 0 where
  pub name : is_no_declared line.name ≡ false
  pub names : list_any values_badly (pairs_of line.pieces) ≡ false
  pub once : stood_before line.number line.name (of_named file.attributes) ≡ false
  pub values : list_any (λ pair. stands_twice (map word_of pair.alternatives)) (filter is_values (pairs_of line.pieces)) ≡ false
  pub counts : list_any (λ pair. is_none (count_of pair.mark)) (pairs_of line.pieces) ≡ false
  pub shaped : list_any is_shapeless line.pieces ≡ false
  pub attribute : not (is_attribute (pairs_of line.pieces)) ≡ false
  pub alternatives : AreKnown file (names_of (bound_names file ++ of_named file.relations)) true (filter (λ pair. not (is_values pair)) (pairs_of line.pieces))
  pub few : are_past 256 line.number (of_named file.attributes) ≡ false
  pub values_few : list_any (λ pair. nat_lt 256 (length pair.alternatives)) (filter is_values (pairs_of line.pieces)) ≡ false

pub keeps_attribute : (file : File) (line : NamedLine) → attribute_fault file line ≡ None → KeepsAttribute file line
keeps_attribute file line e =
    let pairs = pairs_of line.pieces in
    let targets = filter (λ pair. not (is_values pair)) pairs in
    let values = filter is_values pairs in
    let known = declared_names file in
    let t = untold (
    (is_no_declared line.name || list_any values_badly pairs, BadName)
    ∷ (stood_before line.number line.name (of_named file.attributes) || list_any (λ pair. stands_twice (map word_of pair.alternatives)) values, NameTwice)
    ∷ (list_any (λ pair. is_none (count_of pair.mark)) pairs, BadCount)
    ∷ (list_any is_shapeless line.pieces || not (is_attribute pairs), BadArgument)
    ∷ (list_any (λ pair. list_any (is_unknown file.macros known known) pair.alternatives) targets, UnknownTypeNamed)
    ∷ (list_any (λ pair. list_any (is_unheld file.macros true) pair.alternatives) targets, UnknownMacro)
    ∷ (are_past 256 line.number (of_named file.attributes) || list_any (λ pair. nat_lt 256 (length pair.alternatives)) values, TooManyTypes)
    ∷ []) e in
    let named = or_parts (is_no_declared line.name) (list_any values_badly pairs) t.0 in
    let twice = or_parts (stood_before line.number line.name (of_named file.attributes)) (list_any (λ pair. stands_twice (map word_of pair.alternatives)) values) t.1.0 in
    let shape = or_parts (list_any is_shapeless line.pieces) (not (is_attribute pairs)) t.1.1.1.0 in
    let many = or_parts (are_past 256 line.number (of_named file.attributes)) (list_any (λ pair. nat_lt 256 (length pair.alternatives)) values) t.1.1.1.1.1.1.0 in
    record {
      name = named.0;
      names = named.1;
      once = twice.0;
      values = twice.1;
      counts = t.1.1.0;
      shaped = shape.0;
      attribute = shape.1;
      alternatives = record { known = t.1.1.1.1.0; held = t.1.1.1.1.1.0 };
      few = many.0;
      values_few = many.1;
    }

-- the line of a macro
pub record KeepsMacro (file : File) (number : ℕ) (name : List ℕ) (alternatives : List Alternative) : Type 0 where
  pub known : list_any (is_unknown (filter (λ macro. nat_lt macro.number number) file.macros) (declared_names file) (declared_names file)) alternatives ≡ false
  pub held : list_any (is_unheld (filter (λ macro. nat_lt macro.number number) file.macros) true) alternatives ≡ false

pub keeps_macro : (file : File) (number : ℕ) (name : List ℕ) (alternatives : List Alternative) → macro_fault file number name alternatives ≡ None → KeepsMacro file number name alternatives
keeps_macro file number name alternatives e =
    let earlier = filter (λ macro. nat_lt macro.number number) file.macros in
    let t = untold (
    (is_no_name name || list_any (λ one. is_no_name (word_of one)) alternatives, BadName)
    ∷ (is_some (macro_named earlier name), NameTwice)
    ∷ (list_any (is_unknown earlier (declared_names file) (declared_names file)) alternatives, UnknownTypeNamed)
    ∷ (list_any (is_unheld earlier true) alternatives, UnknownMacro)
    ∷ []) e in
    record { known = t.1.1.0; held = t.1.1.1.0 }
