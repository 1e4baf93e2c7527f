-- Every configuration that was read is sound.
use Rattle.std.proofs.Common.{◌≡◌, ℕ, ◌≤◌, ◌||◌, true, false, not, List, [], ◌∷◌, ◌++◌, map, length, take, filter, flat_map, Ok, nat_lt, IsUtf8, refl, sym, subst, ◌∙◌, ap, arith, append-nil}
use Rattle.std.specs.List.{AllByRecursion as Each, list_any}
use Rattle.std.specs.Str.Lines.{lines}
use Rattle.std.proofs.lemmas.Bool.{or_parts, not-false, cond-true}
use Rattle.std.proofs.lemmas.List.{length-map, take_at}
use Rattle.std.proofs.lemmas.List.Elements.{All-from_recursion}
use Rattle.type_hierarchy.specs.declared.type_row.TypeRow.{TypeRow}
use Rattle.conf_model.specs.ConfLines.{Before, file_lines}
use Rattle.conf_model.specs.ConfNames.{TypeLine, NamedLine, File, file_of}
use Rattle.conf_model.specs.ConfFaults.{RolePair, Declared, stood_before, pairs_of, is_values, values_badly, is_attribute, is_held, is_no_name, word_of, is_unknown, is_unheld, declared_names, bound_names, of_named, names_of, stands_twice, is_too_deep, line_before, is_shapeless}
use Rattle.conf_model.specs.ConfOf.{rows_from, role_of, attribute_of, resolved, configuration_of, conf_of}
use Rattle.conf_model.specs.Configurations.{Configuration}
use Rattle.conf_model.specs.declared.attribute_type.AttributeType.{AttributeType}
use Rattle.conf_model.specs.Sound.{IsName, IsDeclaredName, AreTargets, AreRoles, IsRelation, IsOverlap, IsAttribute, IsSound, entity_lines, steps_down}
use Rattle.annotation_conf.proofs.SoundLists.{Each-append, Each-map, Each-filter, each_weaker, each_both, each_fails, each_passes, each_of_map, map-map}
use Rattle.annotation_conf.proofs.SoundLines.{AreNumbered-lines_from}
use Rattle.annotation_conf.proofs.SoundChoices.{IsClean, is_clean, finds_both, targets_keep, relation_names_are}
use Rattle.annotation_conf.proofs.SoundFaults.{KeepsType, KeepsAttribute}
use Rattle.annotation_conf.proofs.SoundFiles.{KeepsAll}
use Rattle.annotation_conf.proofs.SoundFirsts.{firsts_differ, names_of_named}
use Rattle.annotation_conf.proofs.SoundNames.{differ_once}
use Rattle.annotation_conf.proofs.SoundRead.{IsRead, was_read, IsAttributePairs, attribute_pairs, one_few, roles_each}
use Rattle.annotation_conf.proofs.SoundRoles.{roles_keep, relations_keep, overlaps_keep}
use Rattle.annotation_conf.proofs.SoundSizes.{types_sound, relations_few, attributes_few, named_differ, names_are, bound_is, type_lines, KeepsBound, keeps_bound}
use Rattle.annotation_conf.proofs.SoundSteps.{steps_from}
use Rattle.annotation_conf.proofs.SoundTexts.{AreTexts-lines_from, lines_valid, valid_whole}
use Rattle.annotation_conf.proofs.SoundTrees.{bare, entity_lines_are, event_lines_are, entities_stand_first, event-rows_from, steps_down-bare, tree_is}
use Rattle.annotation_conf.proofs.SoundWords.{IsSpelt, IsSpeltLine, pairs_valid}

-- the values of an attribute
flat_names : (pairs : List RolePair) → Each (λ (pair : RolePair). Each (λ one. IsName (word_of one)) pair.alternatives) pairs → Each IsName (flat_map (λ (pair : RolePair). map word_of pair.alternatives) pairs)
flat_names [] a = tt
flat_names (pair ∷ pairs) a =
    Each-append IsName (map word_of pair.alternatives) (flat_map (λ (p : RolePair). map word_of p.alternatives) pairs) (Each-map IsName word_of pair.alternatives a.0) (flat_names pairs a.1)

flat_differ : (pairs : List RolePair) → length pairs ≤ 1 → Each (λ (pair : RolePair). stands_twice (map word_of pair.alternatives) ≡ false) pairs
    → stands_twice (flat_map (λ (pair : RolePair). map word_of pair.alternatives) pairs) ≡ false
flat_differ [] one a = refl
flat_differ (pair ∷ []) one a = ap stands_twice (append-nil (map word_of pair.alternatives)) ∙ a.0
flat_differ (pair ∷ next ∷ more) one a = absurd (omega arith)

value_names : (pair : RolePair) → is_values pair ≡ true → values_badly pair ≡ false → IsSpelt pair.role pair.alternatives → Each (λ one. IsName (word_of one)) pair.alternatives
value_names pair is badly spelt =
    each_both (λ one. (is_held one || is_no_name (word_of one)) ≡ false) (λ one. IsUtf8 (word_of one)) (λ one. IsName (word_of one))
    (λ one f u. record { valid = u; faultless = (or_parts (is_held one) (is_no_name (word_of one)) f).1 }) pair.alternatives
    (each_fails (λ one. is_held one || is_no_name (word_of one)) pair.alternatives (sym (cond-true (is_values pair) (list_any (λ one. is_held one || is_no_name (word_of one)) pair.alternatives) _ is) ∙ badly))
    spelt.words

attribute_keeps : (file : File) → IsClean file → (line : NamedLine) → KeepsAttribute file line → IsSpeltLine line.name line.pieces → IsAttribute (configuration_of file) (attribute_of file line)
attribute_keeps file clean line k spelt =
    record {
      name = record { valid = spelt.name; faultless = k.name };
      targets =
          subst (λ alternatives. AreTargets (configuration_of file) true (resolved file true alternatives)) (sym alternatives_are)
          (targets_keep file clean true known p.arg.alternatives (finds_both file clean.keeps) (arg_keeps.0).some (each_fails (λ (pair : RolePair). list_any (is_unknown file.macros (declared_names file) known) pair.alternatives) (p.arg ∷ []) (subst (λ pairs. list_any (λ (pair : RolePair). list_any (is_unknown file.macros (declared_names file) known) pair.alternatives) pairs ≡ false) p.targets_are k.alternatives.known)).0
          (each_fails (λ (pair : RolePair). list_any (is_unheld file.macros true) pair.alternatives) (p.arg ∷ []) (subst (λ pairs. list_any (λ (pair : RolePair). list_any (is_unheld file.macros true) pair.alternatives) pairs ≡ false) p.targets_are k.alternatives.held)).0);
      few =
          subst (λ values. length (flat_map (λ (pair : RolePair). map word_of pair.alternatives) values) ≤ 256) (sym p.values_are)
          (one_few p.values p.one (subst (λ values. Each (λ (pair : RolePair). nat_lt 256 (length pair.alternatives) ≡ false) values) p.values_are (each_fails (λ (pair : RolePair). nat_lt 256 (length pair.alternatives)) (filter is_values pairs) k.values_few)));
      values = All-from_recursion IsName (attribute_of file line).values (flat_names (filter is_values pairs) values_keep);
      differ =
          subst (λ values. stands_twice (flat_map (λ (pair : RolePair). map word_of pair.alternatives) values) ≡ false) (sym p.values_are)
          (flat_differ p.values p.one (subst (λ values. Each (λ (pair : RolePair). stands_twice (map word_of pair.alternatives) ≡ false) values) p.values_are (each_fails (λ (pair : RolePair). stands_twice (map word_of pair.alternatives)) (filter is_values pairs) k.values)));
    }
  where
    pairs : List RolePair
    pairs = pairs_of line.pieces

    known : List (List ℕ)
    known = names_of (bound_names file ++ of_named file.relations)

    p : IsAttributePairs pairs
    p = attribute_pairs pairs (not-false (is_attribute pairs) k.attribute)

    pairs_spelt : Each (λ (pair : RolePair). IsSpelt pair.role pair.alternatives) pairs
    pairs_spelt = pairs_valid line.pieces spelt.pieces

    arg_keeps : Each (λ (pair : RolePair). IsSpelt pair.role pair.alternatives) (p.arg ∷ [])
    arg_keeps = subst (Each (λ (pair : RolePair). IsSpelt pair.role pair.alternatives)) p.targets_are (Each-filter (λ (pair : RolePair). IsSpelt pair.role pair.alternatives) (λ pair. not (is_values pair)) pairs pairs_spelt)

    alternatives_are : flat_map (λ (pair : RolePair). pair.alternatives) (filter (λ pair. not (is_values pair)) pairs) ≡ p.arg.alternatives
    alternatives_are = ap (flat_map (λ (pair : RolePair). pair.alternatives)) p.targets_are ∙ append-nil p.arg.alternatives

    values_keep : Each (λ (pair : RolePair). Each (λ one. IsName (word_of one)) pair.alternatives) (filter is_values pairs)
    values_keep =
        each_both (λ (pair : RolePair). is_values pair ≡ true) (λ (pair : RolePair). (values_badly pair ≡ false) × IsSpelt pair.role pair.alternatives) (λ (pair : RolePair). Each (λ one. IsName (word_of one)) pair.alternatives)
        (λ pair is both. value_names pair is both.0 both.1) (filter is_values pairs) (each_passes is_values pairs)
        (Each-filter (λ (pair : RolePair). (values_badly pair ≡ false) × IsSpelt pair.role pair.alternatives) is_values pairs
        (each_both (λ (pair : RolePair). values_badly pair ≡ false) (λ (pair : RolePair). IsSpelt pair.role pair.alternatives) (λ (pair : RolePair). (values_badly pair ≡ false) × IsSpelt pair.role pair.alternatives) (λ pair a b. (a, b)) pairs
        (each_fails values_badly pairs k.names) pairs_spelt))

attributes_keep : (file : File) → IsClean file → Each (IsAttribute (configuration_of file)) (configuration_of file).attributes
attributes_keep file clean =
    Each-map (IsAttribute (configuration_of file)) (attribute_of file) file.attributes
    (each_both (KeepsAttribute file) (λ (line : NamedLine). IsSpeltLine line.name line.pieces) (λ line. IsAttribute (configuration_of file) (attribute_of file line)) (λ line k s. attribute_keeps file clean line k s) file.attributes
    clean.keeps.attributes clean.spelt.attributes)

attributes_differ : (file : File) → KeepsAll file → stands_twice (map (λ (attribute : AttributeType). attribute.name) (configuration_of file).attributes) ≡ false
attributes_differ file keeps =
    ap stands_twice (map-map (λ (attribute : AttributeType). attribute.name) (attribute_of file) file.attributes ∙ sym (names_of_named file.attributes))
    ∙ differ_once (of_named file.attributes)
    (Each-map (λ (d : Declared). stood_before d.number d.name (of_named file.attributes) ≡ false) (λ (line : NamedLine). record { number = line.number; name = line.name }) file.attributes
    (each_weaker (KeepsAttribute file) (λ (line : NamedLine). stood_before line.number line.name (of_named file.attributes) ≡ false) (λ line k. k.once) file.attributes keeps.attributes))
    (named_differ file.attributes keeps.attributes_ascend)

-- the names of types are declared names
types_named : (file : File) → IsClean file → Each (λ (row : TypeRow). IsDeclaredName row.name) (configuration_of file).types
types_named file clean =
    each_of_map IsDeclaredName (λ (row : TypeRow). row.name) (configuration_of file).types
    (subst (Each IsDeclaredName) (sym (names_are file ∙ sym (ap names_of (bound_is file)) ∙ map-map (λ (one : Declared). one.name) (λ (line : TypeLine). record { number = line.number; name = line.name }) (type_lines file)))
    (Each-map IsDeclaredName (λ (line : TypeLine). line.name) (type_lines file)
    (each_both (KeepsBound file) (λ (line : TypeLine). IsSpeltLine line.name line.pieces) (λ (line : TypeLine). IsDeclaredName line.name) (λ line k s. record { valid = s.name; faultless = k.name }) (type_lines file) (keeps_bound file clean.keeps)
    (Each-append (λ (line : TypeLine). IsSpeltLine line.name line.pieces) file.entities file.events clean.spelt.entities clean.spelt.events))))

-- how deep lines stand
entity_deep : (file : File) → KeepsAll file → steps_down 0 file.entities ≡ true
entity_deep file keeps =
    steps_from file.entities [] file.entities refl keeps.entities_ascend
    (each_weaker (KeepsType file file.entities [] false) (λ (line : TypeLine). is_too_deep line.depth (line_before line.number file.entities) ≡ false) (λ line k. k.deep) file.entities keeps.entities)

event_deep : (file : File) → KeepsAll file → steps_down 0 file.events ≡ true
event_deep file keeps =
    steps_from file.events [] file.events refl keeps.events_ascend
    (each_weaker (λ (line : TypeLine). KeepsType file file.events (pairs_of line.pieces) (list_any is_shapeless line.pieces) line) (λ (line : TypeLine). is_too_deep line.depth (line_before line.number file.events) ≡ false)
    (λ line k. k.deep) file.events keeps.events)

-- entity types have no roles
no_entity_roles : (file : File) → (lines : List TypeLine) → lines ≡ map bare file.entities → take (length lines) (configuration_of file).roles ≡ map (λ (line : TypeLine). []) lines
no_entity_roles file lines is =
    let size : length (map (λ (line : TypeLine). []) file.entities) ≡ length lines = length-map file.entities (λ (line : TypeLine). []) ∙ sym (ap length is ∙ length-map file.entities bare) in
    take_at (map (λ (line : TypeLine). []) file.entities) (map (λ (line : TypeLine). map (role_of file) (pairs_of line.pieces)) file.events) (length lines) size
    ∙ sym (ap (map (λ (line : TypeLine). [])) is ∙ map-map (λ (line : TypeLine). []) bare file.entities)

pub file_sound : (file : File) → IsClean file → IsSound (configuration_of file)
file_sound file clean =
    let keeps = clean.keeps in
    let conf = configuration_of file in
    let entities_are = entity_lines_are file.entities file.events (entity_deep file keeps) in
    let events_are = event_lines_are file.entities file.events (event_deep file keeps) in
    record {
      types = types_sound file keeps;
      names = All-from_recursion (λ (row : TypeRow). IsDeclaredName row.name) conf.types (types_named file clean);
      entities_first =
          entities_stand_first (rows_from 0 false [] file.entities) (rows_from (length file.entities) true [] file.events) (event-rows_from 0 false [] file.entities) (event-rows_from (length file.entities) true [] file.events);
      tree = tree_is file.entities file.events (entity_deep file keeps) (event_deep file keeps);
      entity_steps = ap (steps_down 0) (entity_lines_are file.entities file.events (entity_deep file keeps)) ∙ steps_down-bare 0 file.entities ∙ entity_deep file keeps;
      event_steps = ap (steps_down 0) (event_lines_are file.entities file.events (event_deep file keeps)) ∙ steps_down-bare 0 file.events ∙ event_deep file keeps;
      roles_each = roles_each file;
      entity_roles = no_entity_roles file (entity_lines conf.types) (entity_lines_are file.entities file.events (entity_deep file keeps));
      roles = All-from_recursion (AreRoles conf) conf.roles (roles_keep file clean);
      relations_few = relations_few file keeps;
      relations_differ = ap stands_twice (relation_names_are file) ∙ firsts_differ file.relations keeps.relations_ascend;
      relations = All-from_recursion (IsRelation conf) conf.relations (relations_keep file clean);
      attributes_few = attributes_few file keeps;
      attributes_differ = attributes_differ file keeps;
      attributes = All-from_recursion (IsAttribute conf) conf.attributes (attributes_keep file clean);
      overlaps = All-from_recursion (IsOverlap conf) conf.overlaps (overlaps_keep file clean);
    }

-- the file of bytes that were read
read_clean : (bytes : List ℕ) (conf : Configuration) → IsRead bytes conf → IsClean (file_of bytes)
unfolding file_of
read_clean bytes conf r =
    is_clean (file_lines bytes) (AreNumbered-lines_from 1 Before (lines bytes)) (AreTexts-lines_from 1 Before (lines bytes) (lines_valid bytes (valid_whole bytes r.whole))) r.faultless

pub sound : (bytes : List ℕ) (conf : Configuration) → conf_of bytes ≡ Ok conf → IsSound conf
sound bytes conf e = let r = was_read bytes conf e in subst IsSound r.is (file_sound (file_of bytes) (read_clean bytes conf r))
