-- The types of a file without fault make a tree, and no list is longer than 256.
use Rattle.std.proofs.Common.{◌≡◌, ℕ, ◌+◌, ◌<◌, ◌≤◌, Bool, true, false, not, List, [], ◌∷◌, ◌++◌, map, length, filter, count_by, suc, refl, sym, subst, ◌∙◌, ap, arith, None, cond}
use Rattle.std.specs.List.{AllByRecursion as Each, list_any}
use Rattle.std.proofs.lemmas.List.{length-map, map-append, length-append}
use Rattle.std.proofs.lemmas.List.Sums.{sum_by-append, length-filter}
use Rattle.type_hierarchy.specs.declared.type_row.TypeRow.{TypeRow}
use Rattle.type_hierarchy.specs.TypeFaults.{fault_of}
use Rattle.conf_model.specs.ConfNames.{TypeLine, NamedLine, File}
use Rattle.conf_model.specs.ConfFaults.{Declared, of_types, of_named, bound_names, names_of, stood_before, are_past, is_no_declared, stands_twice, firsts, pairs_of, is_shapeless}
use Rattle.conf_model.specs.ConfOf.{rows_from, relation_of, attribute_of, configuration_of}
use Rattle.annotation_conf.proofs.SoundLists.{Each-append, Each-map, Each-filter, each_of_map, each_weaker, map-map}
use Rattle.annotation_conf.proofs.SoundFaults.{KeepsType, KeepsRelation, KeepsAttribute}
use Rattle.annotation_conf.proofs.SoundFiles.{Ascend, IsApart, KeepsAll}
use Rattle.annotation_conf.proofs.SoundNames.{NumbersDiffer, differ_once, few_by}
use Rattle.annotation_conf.proofs.SoundRows.{no_fault, ParentsBelow-append, length-rows_from, names-rows_from, usable-rows_from, below-rows_from}

-- the lines of types: entity types, and then event types
abbrev pub type_lines : File → List TypeLine
type_lines file = file.entities ++ file.events

-- what the line of any type keeps
pub record KeepsBound (file : File) (line : TypeLine) : Type 0 where
  pub name : is_no_declared line.name ≡ false
  pub once : stood_before line.number line.name (bound_names file) ≡ false
  pub few : are_past 256 line.number (bound_names file) ≡ false
  pub usable : are_past 63 line.number (of_types (filter (λ one. one.usable) (type_lines file))) ≡ false

pub keeps_bound : (file : File) → KeepsAll file → Each (KeepsBound file) (type_lines file)
keeps_bound file keeps =
    Each-append (KeepsBound file) file.entities file.events
    (each_weaker (KeepsType file file.entities [] false) (KeepsBound file) (λ line k. record { name = k.name; once = k.once; few = k.few; usable = k.usable }) file.entities keeps.entities)
    (each_weaker (λ (line : TypeLine). KeepsType file file.events (pairs_of line.pieces) (list_any is_shapeless line.pieces) line) (KeepsBound file)
    (λ line k. record { name = k.name; once = k.once; few = k.few; usable = k.usable }) file.events keeps.events)

pub bound_is : (file : File) → of_types (type_lines file) ≡ bound_names file
bound_is file = map-append (λ (line : TypeLine). record { number = line.number; name = line.name }) file.entities file.events

nil_map : {X Y : Type 0} (f : X → Y) (xs : List X) → map f xs ≡ [] → xs ≡ []
nil_map f [] e = refl
nil_map f (x ∷ xs) e = absurd (let no : suc (length (map f xs)) ≡ 0 = ap length e in omega arith)

nil_filter : {X : Type 0} (p : X → Bool) (xs : List X) → xs ≡ [] → filter p xs ≡ []
nil_filter p xs e = ap (filter p) e

-- lines that ascend have different numbers
types_differ : (lines : List TypeLine) → Ascend (λ (line : TypeLine). line.number) lines → NumbersDiffer (of_types lines)
types_differ [] a = tt
types_differ (x ∷ lines) a = (
  Each-map (λ (one : Declared). one.number ≡ x.number → ⊥) (λ (line : TypeLine). record { number = line.number; name = line.name }) lines
      (each_weaker (λ (y : TypeLine). x.number < y.number) (λ y. y.number ≡ x.number → ⊥) (λ y h e. omega arith) lines a.0),
  types_differ lines a.1,
)

pub named_differ : (lines : List NamedLine) → Ascend (λ (line : NamedLine). line.number) lines → NumbersDiffer (of_named lines)
named_differ [] a = tt
named_differ (x ∷ lines) a = (
  Each-map (λ (one : Declared). one.number ≡ x.number → ⊥) (λ (line : NamedLine). record { number = line.number; name = line.name }) lines
      (each_weaker (λ (y : NamedLine). x.number < y.number) (λ y. y.number ≡ x.number → ⊥) (λ y h e. omega arith) lines a.0),
  named_differ lines a.1,
)

both_differ : (entities events : List TypeLine) → Ascend (λ (line : TypeLine). line.number) entities → Ascend (λ (line : TypeLine). line.number) events
    → Each (λ (x : TypeLine). IsApart (λ (y : TypeLine). y.number) events x.number) entities → NumbersDiffer (of_types entities ++ of_types events)
both_differ [] events a b c = types_differ events b
both_differ (x ∷ entities) events a b c = (
  Each-append (λ (one : Declared). one.number ≡ x.number → ⊥) (of_types entities) (of_types events)
      (Each-map (λ (one : Declared). one.number ≡ x.number → ⊥) (λ (line : TypeLine). record { number = line.number; name = line.name }) entities
      (each_weaker (λ (y : TypeLine). x.number < y.number) (λ y. y.number ≡ x.number → ⊥) (λ y h e. omega arith) entities a.0))
      (Each-map (λ (one : Declared). one.number ≡ x.number → ⊥) (λ (line : TypeLine). record { number = line.number; name = line.name }) events c.0),
  both_differ entities events a.1 b c.1,
)

-- the names of types differ
pub type_names_differ : (file : File) → KeepsAll file → stands_twice (names_of (bound_names file)) ≡ false
type_names_differ file keeps =
    differ_once (bound_names file)
    (subst (λ ds. Each (λ (d : Declared). stood_before d.number d.name (bound_names file) ≡ false) ds) (bound_is file)
    (Each-map (λ (d : Declared). stood_before d.number d.name (bound_names file) ≡ false) (λ (line : TypeLine). record { number = line.number; name = line.name }) (type_lines file)
    (each_weaker (KeepsBound file) (λ (line : TypeLine). stood_before line.number line.name (bound_names file) ≡ false) (λ line k. k.once) (type_lines file) (keeps_bound file keeps))))
    (both_differ file.entities file.events keeps.entities_ascend keeps.events_ascend keeps.events_apart)

pub names_are : (file : File) → map (λ (row : TypeRow). row.name) (configuration_of file).types ≡ names_of (bound_names file)
names_are file =
    map-append (λ (row : TypeRow). row.name) (rows_from 0 false [] file.entities) (rows_from (length file.entities) true [] file.events)
    ∙ ap (λ xs. xs ++ map (λ (row : TypeRow). row.name) (rows_from (length file.entities) true [] file.events)) (names-rows_from 0 false [] file.entities ∙ of_lines file.entities)
    ∙ ap (λ ys. names_of (of_types file.entities) ++ ys) (names-rows_from (length file.entities) true [] file.events ∙ of_lines file.events)
    ∙ sym (map-append (λ (one : Declared). one.name) (of_types file.entities) (of_types file.events))
  where
    of_lines : (lines : List TypeLine) → map (λ (line : TypeLine). line.name) lines ≡ names_of (of_types lines)
    of_lines lines = sym (map-map (λ (one : Declared). one.name) (λ (line : TypeLine). record { number = line.number; name = line.name }) lines)

pub types_length : (file : File) → length (configuration_of file).types ≡ length (type_lines file)
types_length file =
    length-append (rows_from 0 false [] file.entities) (rows_from (length file.entities) true [] file.events)
    ∙ ap (λ n. n + length (rows_from (length file.entities) true [] file.events)) (length-rows_from 0 false [] file.entities)
    ∙ ap (λ n. length file.entities + n) (length-rows_from (length file.entities) true [] file.events)
    ∙ sym (length-append file.entities file.events)

-- what holds up to each line's number holds of all lines
low : (file : File) (top : ℕ) → Each (λ n. n ≤ top) (map (λ (line : TypeLine). line.number) (type_lines file)) → Each (λ (line : TypeLine). line.number ≤ top) (type_lines file)
low file top a = each_of_map (λ n. n ≤ top) (λ (line : TypeLine). line.number) (type_lines file) a

pub types_few : (file : File) → KeepsAll file → length (configuration_of file).types ≤ 256
types_few file keeps =
    let numbers = map (λ (line : TypeLine). line.number) (type_lines file) in
    let few : length (of_types (type_lines file)) ≤ 256 =
    few_by 256 (of_types (type_lines file)) numbers
    (Each-map (λ n. are_past 256 n (of_types (type_lines file)) ≡ false) (λ (line : TypeLine). line.number) (type_lines file)
    (each_weaker (KeepsBound file) (λ (line : TypeLine). are_past 256 line.number (of_types (type_lines file)) ≡ false)
    (λ line k. subst (λ ds. are_past 256 line.number ds ≡ false) (sym (bound_is file)) k.few) (type_lines file) (keeps_bound file keeps)))
    (λ top a. Each-map (λ (y : Declared). y.number ≤ top) (λ (line : TypeLine). record { number = line.number; name = line.name }) (type_lines file) (low file top a))
    (λ e. ap of_types (nil_map (λ (line : TypeLine). line.number) (type_lines file) e)) in
    let same : length (of_types (type_lines file)) ≡ length (type_lines file) = length-map (type_lines file) (λ (line : TypeLine). record { number = line.number; name = line.name }) in
    let rows = types_length file in
    omega arith

pub types_usable : (file : File) → KeepsAll file → count_by (λ (row : TypeRow). row.usable) (configuration_of file).types ≤ 63
types_usable file keeps =
    let numbers = map (λ (line : TypeLine). line.number) (type_lines file) in
    let kept : List TypeLine = filter (λ (one : TypeLine). one.usable) (type_lines file) in
    let few : length (of_types kept) ≤ 63 =
    few_by 63 (of_types kept) numbers
    (Each-map (λ n. are_past 63 n (of_types kept) ≡ false) (λ (line : TypeLine). line.number) (type_lines file)
    (each_weaker (KeepsBound file) (λ (line : TypeLine). are_past 63 line.number (of_types kept) ≡ false) (λ line k. k.usable) (type_lines file) (keeps_bound file keeps)))
    (λ top a. Each-map (λ (y : Declared). y.number ≤ top) (λ (line : TypeLine). record { number = line.number; name = line.name }) kept
    (Each-filter (λ (line : TypeLine). line.number ≤ top) (λ (one : TypeLine). one.usable) (type_lines file) (low file top a)))
    (λ e. ap of_types (nil_filter (λ (one : TypeLine). one.usable) (type_lines file) (nil_map (λ (line : TypeLine). line.number) (type_lines file) e))) in
    let same : length (of_types kept) ≡ length kept = length-map kept (λ (line : TypeLine). record { number = line.number; name = line.name }) in
    let counted : length kept ≡ count_by (λ (one : TypeLine). one.usable) (type_lines file) = length-filter (λ (one : TypeLine). one.usable) (type_lines file) in
    let parts : count_by (λ (one : TypeLine). one.usable) (type_lines file) ≡ count_by (λ (one : TypeLine). one.usable) file.entities + count_by (λ (one : TypeLine). one.usable) file.events =
    sum_by-append (λ (one : TypeLine). cond one.usable 1 0) file.entities file.events in
    let rows : count_by (λ (row : TypeRow). row.usable) (configuration_of file).types
    ≡ count_by (λ (row : TypeRow). row.usable) (rows_from 0 false [] file.entities) + count_by (λ (row : TypeRow). row.usable) (rows_from (length file.entities) true [] file.events) =
    sum_by-append (λ (row : TypeRow). cond row.usable 1 0) (rows_from 0 false [] file.entities) (rows_from (length file.entities) true [] file.events) in
    let of_entities = usable-rows_from 0 false [] file.entities in
    let of_events = usable-rows_from (length file.entities) true [] file.events in
    omega arith

pub types_sound : (file : File) → KeepsAll file → fault_of (configuration_of file).types ≡ None
types_sound file keeps =
    no_fault (configuration_of file).types (ap stands_twice (names_are file) ∙ type_names_differ file keeps)
    (ParentsBelow-append 0 (rows_from 0 false [] file.entities) (rows_from (length file.entities) true [] file.events) (length file.entities)
    (omega (arith, length-rows_from 0 false [] file.entities)) (below-rows_from 0 false [] file.entities 0 (omega arith)) (below-rows_from (length file.entities) true [] file.events (length file.entities) (omega arith)))
    (types_few file keeps) (types_usable file keeps)

-- relation types and attributes
pub relations_few : (file : File) → KeepsAll file → length (configuration_of file).relations ≤ 256
relations_few file keeps =
    let numbers = map (λ (line : NamedLine). line.number) file.relations in
    let few : length (of_named (firsts file.relations)) ≤ 256 =
    few_by 256 (of_named (firsts file.relations)) numbers
    (Each-map (λ n. are_past 256 n (of_named (firsts file.relations)) ≡ false) (λ (line : NamedLine). line.number) file.relations
    (each_weaker (KeepsRelation file) (λ (line : NamedLine). are_past 256 line.number (of_named (firsts file.relations)) ≡ false) (λ line k. k.few) file.relations keeps.relations))
    (λ top a. Each-map (λ (y : Declared). y.number ≤ top) (λ (line : NamedLine). record { number = line.number; name = line.name }) (firsts file.relations)
    (Each-filter (λ (line : NamedLine). line.number ≤ top) (λ (line : NamedLine). not (stood_before line.number line.name (of_named file.relations))) file.relations (each_of_map (λ n. n ≤ top) (λ (line : NamedLine). line.number) file.relations a)))
    (λ e. ap of_named (none_first file.relations (nil_map (λ (line : NamedLine). line.number) file.relations e))) in
    let same : length (of_named (firsts file.relations)) ≡ length (firsts file.relations) = length-map (firsts file.relations) (λ (line : NamedLine). record { number = line.number; name = line.name }) in
    let rows : length (configuration_of file).relations ≡ length (firsts file.relations) = length-map (firsts file.relations) (relation_of file) in
    omega arith
  where
    none_first : (lines : List NamedLine) → lines ≡ [] → firsts lines ≡ []
    none_first lines e = ap firsts e

pub attributes_few : (file : File) → KeepsAll file → length (configuration_of file).attributes ≤ 256
attributes_few file keeps =
    let numbers = map (λ (line : NamedLine). line.number) file.attributes in
    let few : length (of_named file.attributes) ≤ 256 =
    few_by 256 (of_named file.attributes) numbers
    (Each-map (λ n. are_past 256 n (of_named file.attributes) ≡ false) (λ (line : NamedLine). line.number) file.attributes
    (each_weaker (KeepsAttribute file) (λ (line : NamedLine). are_past 256 line.number (of_named file.attributes) ≡ false) (λ line k. k.few) file.attributes keeps.attributes))
    (λ top a. Each-map (λ (y : Declared). y.number ≤ top) (λ (line : NamedLine). record { number = line.number; name = line.name }) file.attributes (each_of_map (λ n. n ≤ top) (λ (line : NamedLine). line.number) file.attributes a))
    (λ e. ap of_named (nil_map (λ (line : NamedLine). line.number) file.attributes e)) in
    let same : length (of_named file.attributes) ≡ length file.attributes = length-map file.attributes (λ (line : NamedLine). record { number = line.number; name = line.name }) in
    let rows : length (configuration_of file).attributes ≡ length file.attributes = length-map file.attributes (attribute_of file) in
    omega arith
