-- The written lines of types have no fault.
use Rattle.std.proofs.Common.{◌≡◌, ℕ, ◌+◌, ◌≤◌, ◌||◌, Bool, true, false, cond, List, [], ◌∷◌, ◌++◌, map, length, filter, None, is_none, slice_get, count_by, nat_lt, zero, suc, refl, sym, ◌∙◌, ap, arith}
use Rattle.std.specs.Option.{option_map_or}
use Rattle.std.specs.List.{AllByRecursion as Each, list_any, enumerate_from}
use Rattle.std.proofs.lemmas.Bool.{or_from, le-ltb}
use Rattle.std.proofs.lemmas.List.{length-map}
use Rattle.std.proofs.lemmas.List.Elements.{recursion_from_All, All-from_recursion}
use Rattle.std.proofs.lemmas.List.Sums.{sum_by-append, length-filter}
use Rattle.type_hierarchy.specs.declared.type_row.TypeRow.{TypeRow}
use Rattle.conf_model.specs.declared.conf_fault.ConfWhat.TheVariants.{BadIndent, BadName, NameTwice, BadCount, BadArgument, UnknownTypeNamed, UnknownMacro, TooManyTypes}
use Rattle.conf_model.specs.ConfPairs.{count_of}
use Rattle.conf_model.specs.ConfNames.{TypeLine}
use Rattle.conf_model.specs.ConfFaults.{RolePair, Declared, pairs_of, is_too_deep, line_before, is_no_name, is_no_declared, names_badly, stood_before, bound_names, stands_twice, declared_names, is_unknown, is_unheld, names_of, of_types, are_past, is_shapeless, word_of, type_fault}
use Rattle.conf_model.specs.ConfOf.{rows_from, configuration_of}
use Rattle.conf_model.specs.ConfText.{mark_text}
use Rattle.conf_model.specs.Configurations.{Configuration}
use Rattle.conf_model.specs.declared.role.Role.{Role}
use Rattle.conf_model.specs.Sound.{IsDeclaredName, IsRole, AreRoles, IsSound, steps_down}
use Rattle.annotation_conf.proofs.SoundLists.{Each-map, Each-filter, each_weaker, each_both, each_always, each_left, each_right, each_of_map, none_passes, map-map}
use Rattle.annotation_conf.proofs.SoundCounts.{count_again}
use Rattle.annotation_conf.proofs.SoundNumbered.{Ascend-numbered, Each-numbered}
use Rattle.annotation_conf.proofs.SoundRows.{usable-rows_from}
use Rattle.annotation_conf.proofs.SoundSpoken.{Knows, knows_types, are_spoken}
use Rattle.annotation_conf.proofs.SoundTrees.{bare, steps_down-bare}
use Rattle.annotation_conf.proofs.SoundTypesAgain.{types_again, type_names_again, entities_bare, events_bare, each_roles_at}
use Rattle.annotation_conf.proofs.SoundUntold.{none_told, stood_nowhere, never_past, never_deep, rows_sound}
use Rattle.annotation_conf.proofs.Written.{numbered, written_file, written_type, written_role, written_alternatives, entity_rows, event_rows, events_head, roles_at}

-- the pair of a role
abbrev pub role_written : Configuration → Role → RolePair
role_written conf role = record { role = role.name; mark = mark_text role.least role.most; alternatives = written_alternatives conf role.targets }

pub pairs_written : (conf : Configuration) (roles : List Role) → pairs_of (map (written_role conf) roles) ≡ map (role_written conf) roles
pairs_written conf [] = refl
pairs_written conf (role ∷ roles) = ap (λ (pairs : List RolePair). role_written conf role ∷ pairs) (pairs_written conf roles)

pub roles_shaped : (conf : Configuration) (roles : List Role) → list_any is_shapeless (map (written_role conf) roles) ≡ false
roles_shaped conf [] = refl
roles_shaped conf (role ∷ roles) = roles_shaped conf roles

-- names that stand in the file of a sound configuration
pub types_once : (conf : Configuration) → IsSound conf → stands_twice (names_of (bound_names (written_file conf))) ≡ false
types_once conf s = ap stands_twice (type_names_again conf s) ∙ (rows_sound conf.types s.types).once

pub bound_few : (conf : Configuration) → IsSound conf → length (bound_names (written_file conf)) ≤ 256
bound_few conf s =
    let few : length conf.types ≤ 256 = (rows_sound conf.types s.types).few in
    let names : length (names_of (bound_names (written_file conf))) ≡ length (bound_names (written_file conf)) = length-map (bound_names (written_file conf)) (λ (one : Declared). one.name) in
    let same : length (names_of (bound_names (written_file conf))) ≡ length conf.types = ap length (type_names_again conf s) ∙ length-map conf.types (λ (row : TypeRow). row.name) in
    omega arith

pub usable_few : (conf : Configuration) → IsSound conf → length (of_types (filter (λ (one : TypeLine). one.usable) ((written_file conf).entities ++ (written_file conf).events))) ≤ 63
usable_few conf s =
    let entities : List TypeLine = (written_file conf).entities in
    let events : List TypeLine = (written_file conf).events in
    let few : count_by (λ (row : TypeRow). row.usable) conf.types ≤ 63 = (rows_sound conf.types s.types).usable in
    let same : length (of_types (filter (λ (one : TypeLine). one.usable) ((written_file conf).entities ++ (written_file conf).events))) ≡ length (filter (λ (one : TypeLine). one.usable) ((written_file conf).entities ++ (written_file conf).events)) =
    length-map (filter (λ (one : TypeLine). one.usable) ((written_file conf).entities ++ (written_file conf).events)) (λ (line : TypeLine). record { number = line.number; name = line.name }) in
    let counted : length (filter (λ (one : TypeLine). one.usable) ((written_file conf).entities ++ (written_file conf).events)) ≡ count_by (λ (one : TypeLine). one.usable) ((written_file conf).entities ++ (written_file conf).events) =
    length-filter (λ (one : TypeLine). one.usable) ((written_file conf).entities ++ (written_file conf).events) in
    let parts : count_by (λ (one : TypeLine). one.usable) ((written_file conf).entities ++ (written_file conf).events)
    ≡ count_by (λ (one : TypeLine). one.usable) (written_file conf).entities + count_by (λ (one : TypeLine). one.usable) (written_file conf).events =
    sum_by-append (λ (one : TypeLine). cond one.usable 1 0) (written_file conf).entities (written_file conf).events in
    let rows : count_by (λ (row : TypeRow). row.usable) (configuration_of (written_file conf)).types
    ≡ count_by (λ (row : TypeRow). row.usable) (rows_from 0 false [] (written_file conf).entities) + count_by (λ (row : TypeRow). row.usable) (rows_from (length (written_file conf).entities) true [] (written_file conf).events) =
    sum_by-append (λ (row : TypeRow). cond row.usable 1 0) (rows_from 0 false [] (written_file conf).entities) (rows_from (length (written_file conf).entities) true [] (written_file conf).events) in
    let of_entities : count_by (λ (row : TypeRow). row.usable) (rows_from 0 false [] (written_file conf).entities) ≡ count_by (λ (one : TypeLine). one.usable) (written_file conf).entities = usable-rows_from 0 false [] (written_file conf).entities in
    let of_events : count_by (λ (row : TypeRow). row.usable) (rows_from (length (written_file conf).entities) true [] (written_file conf).events) ≡ count_by (λ (one : TypeLine). one.usable) (written_file conf).events =
    usable-rows_from (length (written_file conf).entities) true [] (written_file conf).events in
    let whole : count_by (λ (row : TypeRow). row.usable) (configuration_of (written_file conf)).types ≡ count_by (λ (row : TypeRow). row.usable) conf.types = ap (count_by (λ (row : TypeRow). row.usable)) (types_again conf s) in
    omega arith

-- a written role has no fault
pub record IsSpokenPair (declared known : List (List ℕ)) (relations : Bool) (pair : RolePair) : Type 0 where
  pub name : names_badly pair ≡ false
  pub count : is_none (count_of pair.mark) ≡ false
  pub unknown : list_any (is_unknown [] declared known) pair.alternatives ≡ false
  pub unheld : list_any (is_unheld [] relations) pair.alternatives ≡ false

pub known_types : (conf : Configuration) → IsSound conf → Knows conf false (names_of (bound_names (written_file conf)))
known_types conf s = knows_types conf (names_of (bound_names (written_file conf))) (type_names_again conf s)

role_spoken : (conf : Configuration) → IsSound conf → (role : Role) → IsRole conf role → IsSpokenPair (declared_names (written_file conf)) (names_of (bound_names (written_file conf))) false (role_written conf role)
role_spoken conf s role a =
    let spoken = are_spoken conf s false (declared_names (written_file conf)) (names_of (bound_names (written_file conf))) (known_types conf s) role.targets a.targets in
    record {
      name = or_from (is_no_name role.name) (list_any (λ one. is_no_name (word_of one)) (written_alternatives conf role.targets)) a.name.faultless spoken.names;
      count = ap is_none (count_again role.least role.most a.count);
      unknown = spoken.known_all;
      unheld = spoken.held;
    }

-- what a written line says of roles
record SaysRoles (conf : Configuration) (line : TypeLine) : Type 0 where
  roles : List Role
  pairs : pairs_of line.pieces ≡ map (role_written conf) roles
  shaped : list_any is_shapeless line.pieces ≡ false
  each : Each (IsRole conf) roles
  differ : stands_twice (map (λ (role : Role). role.name) roles) ≡ false
  few : length roles ≤ 256

-- a line of a type that is in order
record IsOrderly (conf : Configuration) (section : List TypeLine) (line : TypeLine) : Type 0 where
  spaced : line.spaced ≡ false
  gapped : line.gapped ≡ false
  deep : is_too_deep line.depth (line_before line.number section) ≡ false
  name : is_no_declared line.name ≡ false
  once : stood_before line.number line.name (bound_names (written_file conf)) ≡ false

type_clean : (conf : Configuration) → IsSound conf → (section : List TypeLine) (line : TypeLine) (roles : List Role) → IsOrderly conf section line → Each (IsRole conf) roles
    → stands_twice (map (λ (role : Role). role.name) roles) ≡ false → length roles ≤ 256 → (shapeless : Bool) → shapeless ≡ false
    → type_fault (written_file conf) section (map (role_written conf) roles) shapeless line ≡ None
type_clean conf s section line roles o each differ few shapeless shaped =
    none_told (
    (line.spaced || is_too_deep line.depth (line_before line.number section), BadIndent)
    ∷ (line.gapped || is_no_declared line.name || list_any names_badly (map (role_written conf) roles), BadName)
    ∷ (stood_before line.number line.name (bound_names (written_file conf)) || stands_twice (map (λ (pair : RolePair). pair.role) (map (role_written conf) roles)), NameTwice)
    ∷ (list_any (λ (pair : RolePair). is_none (count_of pair.mark)) (map (role_written conf) roles), BadCount)
    ∷ (shapeless, BadArgument)
    ∷ (list_any (λ (pair : RolePair). list_any (is_unknown [] (declared_names (written_file conf)) (names_of (bound_names (written_file conf)))) pair.alternatives) (map (role_written conf) roles), UnknownTypeNamed)
    ∷ (list_any (λ (pair : RolePair). list_any (is_unheld [] false) pair.alternatives) (map (role_written conf) roles), UnknownMacro)
    ∷ (are_past 256 line.number (bound_names (written_file conf)) || are_past 63 line.number (of_types (filter (λ (one : TypeLine). one.usable) ((written_file conf).entities ++ (written_file conf).events))) || nat_lt 256 (length (map (role_written conf) roles)), TooManyTypes)
    ∷ []) (
      or_from line.spaced (is_too_deep line.depth (line_before line.number section)) o.spaced o.deep,
      (
        or_from (line.gapped || is_no_declared line.name) (list_any names_badly (map (role_written conf) roles)) (or_from line.gapped (is_no_declared line.name) o.gapped o.name) (of_pairs names_badly (λ pair k. k.name)),
        (
          or_from (stood_before line.number line.name (bound_names (written_file conf))) (stands_twice (map (λ (pair : RolePair). pair.role) (map (role_written conf) roles))) o.once
              (ap stands_twice (map-map (λ (pair : RolePair). pair.role) (role_written conf) roles) ∙ differ),
          (
            of_pairs (λ (pair : RolePair). is_none (count_of pair.mark)) (λ pair k. k.count),
            (
              shaped,
              (
                of_pairs (λ (pair : RolePair). list_any (is_unknown [] (declared_names (written_file conf)) (names_of (bound_names (written_file conf)))) pair.alternatives) (λ pair k. k.unknown),
                (
                  of_pairs (λ (pair : RolePair). list_any (is_unheld [] false) pair.alternatives) (λ pair k. k.unheld),
                  (
                    or_from (are_past 256 line.number (bound_names (written_file conf)) || are_past 63 line.number (of_types (filter (λ (one : TypeLine). one.usable) ((written_file conf).entities ++ (written_file conf).events)))) (nat_lt 256 (length (map (role_written conf) roles)))
                        (or_from (are_past 256 line.number (bound_names (written_file conf))) (are_past 63 line.number (of_types (filter (λ (one : TypeLine). one.usable) ((written_file conf).entities ++ (written_file conf).events))))
                        (never_past 256 line.number (bound_names (written_file conf)) (bound_few conf s))
                        (never_past 63 line.number (of_types (filter (λ (one : TypeLine). one.usable) ((written_file conf).entities ++ (written_file conf).events))) (usable_few conf s)))
                        (le-ltb 256 (length (map (role_written conf) roles)) (omega (arith, length-map roles (role_written conf)))),
                    tt,
                  ),
                ),
              ),
            ),
          ),
        ),
      ),
    )
  where
    spoken : Each (IsSpokenPair (declared_names (written_file conf)) (names_of (bound_names (written_file conf))) false) (map (role_written conf) roles)
    spoken =
        Each-map (IsSpokenPair (declared_names (written_file conf)) (names_of (bound_names (written_file conf))) false) (role_written conf) roles
        (each_weaker (IsRole conf) (λ role. IsSpokenPair (declared_names (written_file conf)) (names_of (bound_names (written_file conf))) false (role_written conf role)) (λ role a. role_spoken conf s role a) roles each)

    of_pairs : (p : RolePair → Bool) → ((pair : RolePair) → IsSpokenPair (declared_names (written_file conf)) (names_of (bound_names (written_file conf))) false pair → p pair ≡ false) → list_any p (map (role_written conf) roles) ≡ false
    of_pairs p h =
        none_passes p (map (role_written conf) roles) (each_weaker (IsSpokenPair (declared_names (written_file conf)) (names_of (bound_names (written_file conf))) false) (λ pair. p pair ≡ false) (λ pair k. h pair k) (map (role_written conf) roles) spoken)

-- lines in order
once_all : (conf : Configuration) → IsSound conf → Each (λ (d : Declared). stood_before d.number d.name (bound_names (written_file conf)) ≡ false) (of_types (written_file conf).entities ++ of_types (written_file conf).events)
once_all conf s = stood_nowhere (bound_names (written_file conf)) [] (bound_names (written_file conf)) refl (types_once conf s)

once_lines : (conf : Configuration) (lines : List TypeLine) → Each (λ (d : Declared). stood_before d.number d.name (bound_names (written_file conf)) ≡ false) (of_types lines)
    → Each (λ (line : TypeLine). stood_before line.number line.name (bound_names (written_file conf)) ≡ false) lines
once_lines conf lines a = each_of_map (λ (d : Declared). stood_before d.number d.name (bound_names (written_file conf)) ≡ false) (λ (line : TypeLine). record { number = line.number; name = line.name }) lines a

-- rows of a list by places have its elements
each_enumerated : {X : Type 0} (P : X → Type 0) (n : ℕ) (xs : List X) → Each P xs → Each (λ (placed : ℕ × X). P placed.1) (enumerate_from n xs)
each_enumerated P n [] a = tt
each_enumerated P n (x ∷ xs) a = (a.0, each_enumerated P (n + 1) xs a.1)

rows_named : (conf : Configuration) → IsSound conf → Each (λ (placed : ℕ × TypeRow). IsDeclaredName placed.1.name) (enumerate_from 0 conf.types)
rows_named conf s = each_enumerated (λ (row : TypeRow). IsDeclaredName row.name) 0 conf.types (recursion_from_All (λ (row : TypeRow). IsDeclaredName row.name) conf.types s.names)

orderly : (conf : Configuration) (number : ℕ) (rows : List (ℕ × TypeRow)) → Each (λ (placed : ℕ × TypeRow). IsDeclaredName placed.1.name) rows → steps_down 0 (map bare (numbered (written_type conf) number rows)) ≡ true
    → Each (λ (line : TypeLine). stood_before line.number line.name (bound_names (written_file conf)) ≡ false) (numbered (written_type conf) number rows)
    → Each (IsOrderly conf (numbered (written_type conf) number rows)) (numbered (written_type conf) number rows)
orderly conf number rows named steps once =
    let lines : List TypeLine = numbered (written_type conf) number rows in
    each_both (λ (line : TypeLine). (line.spaced ≡ false) × ((line.gapped ≡ false) × (is_no_declared line.name ≡ false))) (λ (line : TypeLine). (is_too_deep line.depth (line_before line.number (numbered (written_type conf) number rows)) ≡ false) × (stood_before line.number line.name (bound_names (written_file conf)) ≡ false))
    (IsOrderly conf (numbered (written_type conf) number rows)) (λ line a b. record { spaced = a.0; gapped = a.1.0; deep = b.0; name = a.1.1; once = b.1 }) (numbered (written_type conf) number rows)
    (Each-numbered (written_type conf) (λ (line : TypeLine). (line.spaced ≡ false) × ((line.gapped ≡ false) × (is_no_declared line.name ≡ false))) number rows
    (each_weaker (λ (placed : ℕ × TypeRow). IsDeclaredName placed.1.name) (λ (placed : ℕ × TypeRow). (k : ℕ) → (false ≡ false) × ((false ≡ false) × (is_no_declared placed.1.name ≡ false))) (λ placed d k. (refl, (refl, d.faultless))) rows named))
    (each_both (λ (line : TypeLine). is_too_deep line.depth (line_before line.number (numbered (written_type conf) number rows)) ≡ false) (λ (line : TypeLine). stood_before line.number line.name (bound_names (written_file conf)) ≡ false) _ (λ line a b. (a, b)) (numbered (written_type conf) number rows)
    (never_deep (numbered (written_type conf) number rows) [] (numbered (written_type conf) number rows) refl (Ascend-numbered (written_type conf) (λ (line : TypeLine). line.number) (λ k row. refl) number rows)
    (sym (steps_down-bare 0 (numbered (written_type conf) number rows)) ∙ steps)) once)

pub entities_clean : (conf : Configuration) → IsSound conf → Each (λ (line : TypeLine). type_fault (written_file conf) (written_file conf).entities [] false line ≡ None) (written_file conf).entities
entities_clean conf s =
    each_weaker (IsOrderly conf (written_file conf).entities) (λ (line : TypeLine). type_fault (written_file conf) (written_file conf).entities [] false line ≡ None)
    (λ line o. type_clean conf s (written_file conf).entities line [] o tt refl (omega arith) false refl) (written_file conf).entities
    (orderly conf 2 (entity_rows conf) (Each-filter (λ (placed : ℕ × TypeRow). IsDeclaredName placed.1.name) _ (enumerate_from 0 conf.types) (rows_named conf s))
    (ap (steps_down 0) (entities_bare conf) ∙ s.entity_steps)
    (once_lines conf (written_file conf).entities (each_left _ (of_types (written_file conf).entities) (of_types (written_file conf).events) (once_all conf s))))

at_roles : (conf : Configuration) (roles : List (List Role)) (place : ℕ) → Each (AreRoles conf) roles → AreRoles conf (option_map_or (λ own. own) (slice_get roles place) [])
at_roles conf [] place a = record { few = omega arith; differ = refl; each = All-from_recursion (IsRole conf) [] tt }
at_roles conf (own ∷ roles) zero a = a.0
at_roles conf (own ∷ roles) (suc place) a = at_roles conf roles place a.1

says_roles : (conf : Configuration) → IsSound conf → (row : ℕ × TypeRow) (k : ℕ) → SaysRoles conf (written_type conf k row)
says_roles conf s row k =
    let own = at_roles conf conf.roles row.0 (recursion_from_All (AreRoles conf) conf.roles s.roles) in
    record {
      roles = roles_at conf row.0;
      pairs = pairs_written conf (roles_at conf row.0);
      shaped = roles_shaped conf (roles_at conf row.0);
      each = each_roles_at conf s row.0;
      differ = own.differ;
      few = own.few;
    }

pub events_clean : (conf : Configuration) → IsSound conf
    → Each (λ (line : TypeLine). type_fault (written_file conf) (written_file conf).events (pairs_of line.pieces) (list_any is_shapeless line.pieces) line ≡ None) (written_file conf).events
events_clean conf s =
    each_both (IsOrderly conf (written_file conf).events) (SaysRoles conf) (λ (line : TypeLine). type_fault (written_file conf) (written_file conf).events (pairs_of line.pieces) (list_any is_shapeless line.pieces) line ≡ None)
    (λ line o r. ap (λ pairs. type_fault (written_file conf) (written_file conf).events pairs (list_any is_shapeless line.pieces) line) r.pairs
    ∙ type_clean conf s (written_file conf).events line r.roles o r.each r.differ r.few (list_any is_shapeless line.pieces) r.shaped) (written_file conf).events
    (orderly conf (events_head conf + 1) (event_rows conf) (Each-filter (λ (placed : ℕ × TypeRow). IsDeclaredName placed.1.name) _ (enumerate_from 0 conf.types) (rows_named conf s))
    (ap (steps_down 0) (events_bare conf) ∙ s.event_steps)
    (once_lines conf (written_file conf).events (each_right _ (of_types (written_file conf).entities) (of_types (written_file conf).events) (once_all conf s))))
    (Each-numbered (written_type conf) (SaysRoles conf) (events_head conf + 1) (event_rows conf) (each_always (λ (row : ℕ × TypeRow). (k : ℕ) → SaysRoles conf (written_type conf k row)) (λ row k. says_roles conf s row k) (event_rows conf)))
