-- The types of a sound configuration and their roles are what its written lines say.
use Rattle.std.proofs.Common.{◌≡◌, ℕ, ◌+◌, Bool, true, false, cond, if◌then◌else◌, List, [], ◌∷◌, ◌++◌, map, length, take, drop, filter, Option, slice_get, unwrap_or, zero, suc, refl, sym, ◌∙◌, ap, ap₂, arith, take-append-drop}
use Rattle.std.specs.Option.{option_map_or}
use Rattle.std.specs.List.{AllByRecursion as Each, enumerate_from}
use Rattle.std.proofs.lemmas.Bool.{true≢false}
use Rattle.std.proofs.lemmas.List.{length-map, length-append, length-drop}
use Rattle.std.proofs.lemmas.List.Elements.{recursion_from_All}
use Rattle.std.proofs.lemmas.List.FromFn.{length-enumerate_from}
use Rattle.type_hierarchy.specs.declared.type_row.TypeRow.{TypeRow}
use Rattle.conf_model.specs.ConfPairs.{Count}
use Rattle.conf_model.specs.ConfNames.{TypeLine, File}
use Rattle.conf_model.specs.ConfFaults.{pairs_of, bound_names, names_of}
use Rattle.conf_model.specs.ConfOf.{role_of, configuration_of}
use Rattle.conf_model.specs.Configurations.{Configuration}
use Rattle.conf_model.specs.declared.alternatives.Alternatives.{Alternatives}
use Rattle.conf_model.specs.declared.role.Role.{Role}
use Rattle.conf_model.specs.Sound.{bare_line, entity_lines, event_lines, IsRole, AreRoles, IsSound}
use Rattle.annotation_conf.proofs.SoundLists.{each_weaker, each_always, each_passes, map-map}
use Rattle.annotation_conf.proofs.SoundCounts.{count_again}
use Rattle.annotation_conf.proofs.SoundHeld.{HasNames, resolved_again}
use Rattle.annotation_conf.proofs.SoundNumbered.{map-numbered, at_places}
use Rattle.annotation_conf.proofs.SoundSizes.{names_are}
use Rattle.annotation_conf.proofs.SoundTrees.{rows_of, bare, rows_of-bare, filter_entities, filter_events}
use Rattle.annotation_conf.proofs.Written.{written_file, written_type, written_role, entity_rows, event_rows, events_head, roles_at}

-- the lines of types, without what they say of roles
pub entities_bare : (conf : Configuration) → map bare (written_file conf).entities ≡ entity_lines conf.types
entities_bare conf = map-numbered (written_type conf) bare (bare_line conf.types) 2 (entity_rows conf) (each_always (λ (row : ℕ × TypeRow). (k : ℕ) → bare (written_type conf k row) ≡ bare_line conf.types row) (λ row k. refl) (entity_rows conf))

pub events_bare : (conf : Configuration) → map bare (written_file conf).events ≡ event_lines conf.types
events_bare conf =
    map-numbered (written_type conf) bare (bare_line conf.types) (events_head conf + 1) (event_rows conf) (each_always (λ (row : ℕ × TypeRow). (k : ℕ) → bare (written_type conf k row) ≡ bare_line conf.types row) (λ row k. refl) (event_rows conf))

pub types_again : (conf : Configuration) → IsSound conf → (configuration_of (written_file conf)).types ≡ conf.types
types_again conf h = sym (rows_of-bare (written_file conf).entities (written_file conf).events) ∙ ap₂ rows_of (entities_bare conf) (events_bare conf) ∙ h.tree

pub type_names_again : (conf : Configuration) → IsSound conf → names_of (bound_names (written_file conf)) ≡ map (λ (row : TypeRow). row.name) conf.types
type_names_again conf h = sym (names_are (written_file conf)) ∙ ap (map (λ (row : TypeRow). row.name)) (types_again conf h)

-- entity types and event types of a sound configuration
abbrev pub entity_types : Configuration → List TypeRow
entity_types conf = filter (λ (row : TypeRow). if row.event then false else true) conf.types

abbrev pub event_types : Configuration → List TypeRow
event_types conf = filter (λ (row : TypeRow). row.event) conf.types

not_event : (b : Bool) → cond b false true ≡ true → b ≡ false
not_event true e = absurd (true≢false (sym e))
not_event false e = refl

entities_only : (conf : Configuration) → Each (λ (row : TypeRow). row.event ≡ false) (entity_types conf)
entities_only conf =
    each_weaker (λ (row : TypeRow). cond row.event false true ≡ true) (λ (row : TypeRow). row.event ≡ false) (λ row e. not_event row.event e) (entity_types conf) (each_passes (λ (row : TypeRow). cond row.event false true) conf.types)

events_only : (conf : Configuration) → Each (λ (row : TypeRow). row.event ≡ true) (event_types conf)
events_only conf = each_passes (λ (row : TypeRow). row.event) conf.types

pub entity_rows_are : (conf : Configuration) → IsSound conf → entity_rows conf ≡ enumerate_from 0 (entity_types conf)
entity_rows_are conf h =
    ap (λ (rows : List TypeRow). filter (λ (placed : ℕ × TypeRow). if placed.1.event then false else true) (enumerate_from 0 rows)) (sym h.entities_first)
    ∙ filter_entities (entity_types conf) (event_types conf) (entities_only conf) (events_only conf)

pub event_rows_are : (conf : Configuration) → IsSound conf → event_rows conf ≡ enumerate_from (length (entity_types conf)) (event_types conf)
event_rows_are conf h =
    ap (λ (rows : List TypeRow). filter (λ (placed : ℕ × TypeRow). placed.1.event) (enumerate_from 0 rows)) (sym h.entities_first)
    ∙ filter_events (entity_types conf) (event_types conf) (entities_only conf) (events_only conf)

-- roles
each_role : (file : File) (conf : Configuration) → HasNames file conf → (roles : List Role) → Each (IsRole conf) roles → map (role_of file) (pairs_of (map (written_role conf) roles)) ≡ roles
each_role file conf has [] a = refl
each_role file conf has (role ∷ roles) a =
    ap₂ (λ (r : Role) (rs : List Role). r ∷ rs)
    (ap₂ (λ (o : Option Count) (targets : Alternatives). of_count (unwrap_or o (record { least = 1; most = 1 })) targets) (count_again role.least role.most a.0.count) (resolved_again file conf has false role.targets a.0.targets))
    (each_role file conf has roles a.1)
  where
    of_count : Count → Alternatives → Role
    of_count count targets = record { name = role.name; least = count.least; most = count.most; targets = targets }

at_place : (conf : Configuration) (roles : List (List Role)) (place : ℕ) → Each (AreRoles conf) roles → Each (IsRole conf) (option_map_or (λ own. own) (slice_get roles place) [])
at_place conf [] place a = tt
at_place conf (own ∷ roles) zero a = recursion_from_All (IsRole conf) own a.0.each
at_place conf (own ∷ roles) (suc place) a = at_place conf roles place a.1

pub each_roles_at : (conf : Configuration) → IsSound conf → (place : ℕ) → Each (IsRole conf) (roles_at conf place)
each_roles_at conf h place = at_place conf conf.roles place (recursion_from_All (AreRoles conf) conf.roles h.roles)

pub roles_again : (conf : Configuration) → IsSound conf → HasNames (written_file conf) conf → (configuration_of (written_file conf)).roles ≡ conf.roles
roles_again conf h has =
    let file : File = written_file conf in
    let first : map (λ (line : TypeLine). []) (written_file conf).entities ≡ take (length (entity_lines conf.types)) conf.roles =
    map-numbered (written_type conf) (λ (line : TypeLine). []) (λ (row : ℕ × TypeRow). []) 2 (entity_rows conf) (each_always (λ (row : ℕ × TypeRow). (k : ℕ) → ◌≡◌ {A = List Role} [] []) (λ row k. refl) (entity_rows conf))
    ∙ sym (map-map (λ (line : TypeLine). []) (bare_line conf.types) (entity_rows conf)) ∙ sym h.entity_roles in
    let size : length (entity_lines conf.types) ≡ length (entity_types conf) =
    length-map (entity_rows conf) (bare_line conf.types) ∙ ap length (entity_rows_are conf h) ∙ length-enumerate_from 0 (entity_types conf) in
    let whole : length conf.roles ≡ length (entity_types conf) + length (event_types conf) =
    h.roles_each ∙ sym (ap length h.entities_first) ∙ length-append (entity_types conf) (event_types conf) in
    let second : map (λ (line : TypeLine). map (role_of (written_file conf)) (pairs_of line.pieces)) (written_file conf).events ≡ drop (length (entity_types conf)) conf.roles =
    map-numbered (written_type conf) (λ (line : TypeLine). map (role_of (written_file conf)) (pairs_of line.pieces)) (λ (row : ℕ × TypeRow). roles_at conf row.0) (events_head conf + 1) (event_rows conf)
    (each_always (λ (row : ℕ × TypeRow). (k : ℕ) → map (role_of (written_file conf)) (pairs_of (map (written_role conf) (roles_at conf row.0))) ≡ roles_at conf row.0)
    (λ row k. each_role (written_file conf) conf has (roles_at conf row.0) (each_roles_at conf h row.0)) (event_rows conf))
    ∙ ap (map (λ (row : ℕ × TypeRow). roles_at conf row.0)) (event_rows_are conf h)
    ∙ at_places conf.roles (length (entity_types conf)) (event_types conf) (omega (arith, length-drop (length (entity_types conf)) conf.roles)) in
    ap₂ (λ (a b : List (List Role)). a ++ b) first second
    ∙ ap (λ (n : ℕ). take n conf.roles ++ drop (length (entity_types conf)) conf.roles) size
    ∙ take-append-drop (length (entity_types conf)) conf.roles
