-- Alternatives that were resolved keep what `AreTargets` says.
use Rattle.std.proofs.Common.{◌≡◌, ℕ, ◌<◌, ◌||◌, Bool, true, false, cond, List, [], ◌∷◌, ◌++◌, map, length, Option, Some, None, option_map, nat_lt, bytes_eq, slice_get, refl, sym, subst, ◌∙◌, ap, inl, inr, ◌⊎◌, append-nil}
use Rattle.std.specs.Option.{option_map_or}
use Rattle.std.specs.List.{AllByRecursion as Each, list_any}
use Rattle.std.proofs.lemmas.Bool.{or_cases, or_left, or_right, true≢false, lt-ltb, cond_both}
use Rattle.std.proofs.lemmas.Option.{none-some, same_Some, slice_get-map}
use Rattle.std.proofs.lemmas.List.{length-map, map-append}
use Rattle.std.proofs.lemmas.List.Elements.{All-from_recursion}
use Rattle.std.proofs.lemmas.List.Folds.{list_any-append}
use Rattle.type_hierarchy.specs.declared.type_row.TypeRow.{TypeRow}
use Rattle.conf_model.specs.ConfPairs.{Alternative}
use Rattle.conf_model.specs.ConfNames.{File, Holding, all_held, file_of_lines}
use Rattle.conf_model.specs.ConfLines.{Line}
use Rattle.conf_model.specs.ConfFaults.{Declared, of_named, bound_names, names_of, declared_names, is_among, is_unknown, is_unheld, firsts}
use Rattle.conf_model.specs.ConfOf.{places_of, resolved, relation_of, configuration_of, first_fault}
use Rattle.conf_model.specs.ConfText.{type_name_at, relation_name_at}
use Rattle.conf_model.specs.Configurations.{Configuration}
use Rattle.conf_model.specs.declared.relation_type.RelationType.{RelationType}
use Rattle.conf_model.specs.Sound.{AreTargets}
use Rattle.annotation_conf.proofs.SoundLists.{Each-map, map-map}
use Rattle.annotation_conf.proofs.SoundLines.{AreNumbered, each_faultless}
use Rattle.annotation_conf.proofs.SoundFiles.{KeepsAll, keeps_all}
use Rattle.annotation_conf.proofs.SoundFirsts.{firsts_have, names_of_named}
use Rattle.annotation_conf.proofs.SoundHoldings.{AllHold, MayStand, all_may, all_some}
use Rattle.annotation_conf.proofs.SoundMacros.{macros_hold}
use Rattle.annotation_conf.proofs.SoundNames.{bytes_same}
use Rattle.annotation_conf.proofs.SoundPlaces.{NamesPlaces, places_again, places_held, places_within, places_some}
use Rattle.annotation_conf.proofs.SoundSizes.{names_are}
use Rattle.annotation_conf.proofs.SoundTexts.{AreTexts}
use Rattle.annotation_conf.proofs.SoundWords.{AreSpelt, are_spelt}

-- a file of UTF-8 lines without fault
pub record IsClean (file : File) : Type 0 where
  pub keeps : KeepsAll file
  pub macros : AllHold (declared_names file) file.macros
  pub spelt : AreSpelt file

pub is_clean : (lines : List Line) → AreNumbered 1 lines → AreTexts lines → first_fault (file_of_lines lines) lines ≡ None → IsClean (file_of_lines lines)
is_clean lines numbered texts e = record {
  keeps = keeps_all lines numbered e;
  macros = macros_hold (file_of_lines lines) 1 [] lines numbered refl tt tt (each_faultless (file_of_lines lines) lines e);
  spelt = are_spelt lines texts;
}

-- the names of relation types
pub relation_names_are : (file : File) → map (λ (relation : RelationType). relation.name) (configuration_of file).relations ≡ names_of (of_named (firsts file.relations))
relation_names_are file = map-map (λ (relation : RelationType). relation.name) (relation_of file) (firsts file.relations) ∙ sym (names_of_named (firsts file.relations))

named_by : {X : Type 0} (name : X → List ℕ) (xs : List X) → NamesPlaces (map name xs) (λ place. option_map_or name (slice_get xs place) [])
named_by {X} name xs place word e = go (slice_get xs place) (sym (slice_get-map name xs place) ∙ e)
  where
    go : (o : Option X) → option_map name o ≡ Some word → option_map_or name o [] ≡ word
    go None f = absurd (none-some word f)
    go (Some x) f = same_Some (name x) word f

-- names that are known are names of types, or of relation types where they may stand
abbrev pub FindsKnown : File → Bool → List (List ℕ) → Type 0
FindsKnown file relations known = (name : List ℕ) → is_among known name ≡ true
    → (is_among (names_of (bound_names file)) name ≡ true) ⊎ ((relations ≡ true) × (is_among (names_of (of_named (firsts file.relations))) name ≡ true))

pub finds_types : (file : File) → FindsKnown file false (names_of (bound_names file))
finds_types file name e = inl e

pub finds_both : (file : File) → KeepsAll file → FindsKnown file true (names_of (bound_names file ++ of_named file.relations))
finds_both file keeps name e =
    let parts = map-append (λ (one : Declared). one.name) (bound_names file) (of_named file.relations) in
    elim (or_cases (is_among (names_of (bound_names file)) name) (is_among (names_of (of_named file.relations)) name)
    (sym (ap (λ names. is_among names name) parts ∙ list_any-append (bytes_eq name) (names_of (bound_names file)) (names_of (of_named file.relations))) ∙ e)) [
      | inl type_ ↦ inl type_
      | inr relation ↦ inr (refl, firsts_have file.relations keeps.relations_ascend name relation)
    ]

some_named : (a b c d : Bool) (names : List (List ℕ)) (x y : Bool) → (a || b || c || d || nat_lt 0 (length names)) ≡ true → ((name : List ℕ) (more : List (List ℕ)) → names ≡ name ∷ more → (x || y) ≡ true)
    → (a || b || c || d || x || y) ≡ true
some_named true b c d names x y e h = refl
some_named false true c d names x y e h = refl
some_named false false true d names x y e h = refl
some_named false false false true names x y e h = refl
some_named false false false false [] x y e h = absurd (true≢false (sym e))
some_named false false false false (name ∷ more) x y e h = h name more refl

-- what alternatives keep whose names are known and whose macros are defined
pub targets_keep : (file : File) → IsClean file → (relations : Bool) (known : List (List ℕ)) (alternatives : List Alternative) → FindsKnown file relations known → 0 < length alternatives
    → list_any (is_unknown file.macros (declared_names file) known) alternatives ≡ false → list_any (is_unheld file.macros relations) alternatives ≡ false
    → AreTargets (configuration_of file) relations (resolved file relations alternatives)
targets_keep file clean relations known alternatives finds some unknown unheld =
    record {
      some =
          some_named held.entity held.event held.any held.relation held.names (nat_lt 0 (length bound)) (nat_lt 0 (length between))
          (all_some (declared_names file) file.macros relations alternatives clean.macros some unheld) (λ name more is. has_place name (head name more is) (among name more is));
      relation = may.relation;
      bound_within =
          All-from_recursion (λ place. place < length conf.types) bound
          (subst (λ n. Each (λ place. place < n) bound) (sym (ap length (names_are file)) ∙ length-map conf.types (λ (row : TypeRow). row.name)) (places_within held.names type_names));
      between_within =
          All-from_recursion (λ place. place < length conf.relations) between
          (cond_both relations (places_of held.names relation_names) [] (Each (λ place. place < length conf.relations))
          (λ e. subst (λ n. Each (λ place. place < n) (places_of held.names relation_names)) (sym (ap length (relation_names_are file)) ∙ length-map conf.relations (λ (relation : RelationType). relation.name))
          (places_within held.names relation_names)) (λ e. tt));
      bound =
          subst (λ names. places_of (map (type_name_at conf) (places_of held.names names) ++ map (relation_name_at conf) between) (map (λ (row : TypeRow). row.name) conf.types) ≡ places_of held.names names) (names_are file)
          (places_again held.names (map (λ (row : TypeRow). row.name) conf.types) (type_name_at conf) [] (map (relation_name_at conf) between) (named_by (λ (row : TypeRow). row.name) conf.types) tt
          (Each-map (λ name. is_among held.names name ≡ true) (relation_name_at conf) between between_held));
      between =
          between_again relations;
    }
  where
    conf : Configuration
    conf = configuration_of file

    held : Holding
    held = all_held file.macros alternatives

    type_names : List (List ℕ)
    type_names = names_of (bound_names file)

    relation_names : List (List ℕ)
    relation_names = names_of (of_named (firsts file.relations))

    bound : List ℕ
    bound = places_of held.names type_names

    between : List ℕ
    between = cond relations (places_of held.names relation_names) []

    may : MayStand known relations held
    may = all_may (declared_names file) file.macros known relations alternatives clean.macros unknown unheld

    relation_named : NamesPlaces relation_names (relation_name_at conf)
    relation_named = subst (λ names. NamesPlaces names (relation_name_at conf)) (relation_names_are file) (named_by (λ (relation : RelationType). relation.name) conf.relations)

    type_named : NamesPlaces type_names (type_name_at conf)
    type_named = subst (λ names. NamesPlaces names (type_name_at conf)) (names_are file) (named_by (λ (row : TypeRow). row.name) conf.types)

    between_held : Each (λ place. is_among held.names (relation_name_at conf place) ≡ true) between
    between_held =
        cond_both relations (places_of held.names relation_names) [] (Each (λ place. is_among held.names (relation_name_at conf place) ≡ true))
        (λ e. places_held held.names relation_names (relation_name_at conf) relation_named) (λ e. tt)

    bound_held : Each (λ name. is_among held.names name ≡ true) (map (type_name_at conf) bound)
    bound_held = Each-map (λ name. is_among held.names name ≡ true) (type_name_at conf) bound (places_held held.names type_names (type_name_at conf) type_named)

    between_again : (b : Bool) → cond b (places_of (map (type_name_at conf) bound ++ map (relation_name_at conf) (cond b (places_of held.names relation_names) [])) (map (λ (relation : RelationType). relation.name) conf.relations)) []
        ≡ cond b (places_of held.names relation_names) []
    between_again false = refl
    between_again true =
        subst (λ names. places_of (map (type_name_at conf) bound ++ map (relation_name_at conf) (places_of held.names names)) (map (λ (relation : RelationType). relation.name) conf.relations) ≡ places_of held.names names) (relation_names_are file)
        (ap (λ names. places_of (map (type_name_at conf) bound ++ names) (map (λ (relation : RelationType). relation.name) conf.relations)) (sym (append-nil (map (relation_name_at conf) (places_of held.names (map (λ (relation : RelationType). relation.name) conf.relations)))))
        ∙ places_again held.names (map (λ (relation : RelationType). relation.name) conf.relations) (relation_name_at conf) (map (type_name_at conf) bound) [] (named_by (λ (relation : RelationType). relation.name) conf.relations) bound_held tt)

    head : (name : List ℕ) (more : List (List ℕ)) → held.names ≡ name ∷ more → is_among known name ≡ true
    head name more is = (subst (Each (λ n. is_among known n ≡ true)) is may.known).0

    among : (name : List ℕ) (more : List (List ℕ)) → held.names ≡ name ∷ more → is_among held.names name ≡ true
    among name more is = ap (λ names. is_among names name) is ∙ or_left (bytes_eq name name) (is_among more name) (bytes_same name name refl)

    has_place : (name : List ℕ) → is_among known name ≡ true → is_among held.names name ≡ true → (nat_lt 0 (length bound) || nat_lt 0 (length between)) ≡ true
    has_place name e f =
        elim (finds name e) [
          | inl type_ ↦ or_left (nat_lt 0 (length bound)) (nat_lt 0 (length between)) (lt-ltb 0 (length bound) (places_some held.names type_names name f type_))
          | inr relation ↦
              or_right (nat_lt 0 (length bound)) (nat_lt 0 (length between))
              (ap (λ b. nat_lt 0 (length (cond b (places_of held.names relation_names) []))) relation.0 ∙ lt-ltb 0 (length (places_of held.names relation_names)) (places_some held.names relation_names name f relation.1))
        ]
