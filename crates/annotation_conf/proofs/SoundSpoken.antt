-- Written alternatives are names that are known, and macros that may stand.
use Rattle.std.proofs.Common.{◌≡◌, ℕ, ◌<◌, ◌||◌, Bool, true, false, not, List, [], ◌∷◌, ◌++◌, map, length, slice_get, slice_index, ◌==◌, bytes_eq, codes, zero, suc, refl, sym, subst, ◌∙◌, ap, arith}
use Rattle.std.specs.Option.{option_map_or}
use Rattle.std.specs.List.{AllByRecursion as Each, list_any}
use Rattle.std.specs.Str.{chars}
use Rattle.std.proofs.lemmas.Bool.{or_parts, or_left, or_right, not_from_true, true≢false}
use Rattle.std.proofs.lemmas.List.Elements.{recursion_from_All}
use Rattle.mark_base.specs.Names.{name_fault}
use Rattle.conf_model.specs.ConfPairs.{Alternative, Named, Held}
use Rattle.conf_model.specs.ConfFaults.{is_among, is_unknown, is_unheld, is_no_name, is_no_declared, word_of}
use Rattle.conf_model.specs.ConfLines.{is_hyphens}
use Rattle.conf_model.specs.ConfText.{type_name_at, relation_name_at, has_type_named, named_apart}
use Rattle.conf_model.specs.Configurations.{Configuration}
use Rattle.conf_model.specs.declared.alternatives.Alternatives.{Alternatives}
use Rattle.conf_model.specs.Sound.{IsDeclaredName, AreTargets, IsRelation, IsSound}
use Rattle.annotation_conf.proofs.SoundLists.{Each-append, Each-map, Each-filter, each_weaker, none_passes}
use Rattle.annotation_conf.proofs.SoundNames.{bytes_same}
use Rattle.annotation_conf.proofs.Written.{held_where, written_alternatives}

where_held : (P : Alternative → Type 0) (so : Bool) (name : List ℕ) → (so ≡ true → P (Held name)) → Each P (held_where so name)
where_held P true name h = (h refl, tt)
where_held P false name h = tt

-- what each written alternative keeps
each_written : (P : Alternative → Type 0) (conf : Configuration) (named : Alternatives) → P (Held (codes "ENTITY")) → P (Held (codes "EVENT")) → P (Held (codes "ANY")) → (named.relation ≡ true → P (Held (codes "RELATION")))
    → Each (λ place. P (Named (type_name_at conf place))) named.bound → Each (λ place. P (Named (relation_name_at conf place))) named.between → Each P (written_alternatives conf named)
each_written P conf named a b c d e f =
    Each-append P (held_where named.entity (codes "ENTITY") ++ held_where named.event (codes "EVENT") ++ held_where named.any (codes "ANY") ++ held_where named.relation (codes "RELATION") ++ map (λ place. Named (type_name_at conf place)) named.bound) (map (λ place. Named (relation_name_at conf place)) (named_apart conf named))
    (Each-append P (held_where named.entity (codes "ENTITY") ++ held_where named.event (codes "EVENT") ++ held_where named.any (codes "ANY") ++ held_where named.relation (codes "RELATION")) (map (λ place. Named (type_name_at conf place)) named.bound)
    (Each-append P (held_where named.entity (codes "ENTITY") ++ held_where named.event (codes "EVENT") ++ held_where named.any (codes "ANY")) (held_where named.relation (codes "RELATION"))
    (Each-append P (held_where named.entity (codes "ENTITY") ++ held_where named.event (codes "EVENT")) (held_where named.any (codes "ANY"))
    (Each-append P (held_where named.entity (codes "ENTITY")) (held_where named.event (codes "EVENT")) (where_held P named.entity (codes "ENTITY") (λ s. a)) (where_held P named.event (codes "EVENT") (λ s. b)))
    (where_held P named.any (codes "ANY") (λ s. c))) (where_held P named.relation (codes "RELATION") d))
    (Each-map P (λ place. Named (type_name_at conf place)) named.bound e)) (Each-map P (λ place. Named (relation_name_at conf place)) (named_apart conf named)
    (Each-filter (λ place. P (Named (relation_name_at conf place))) (λ place. not (has_type_named conf named.bound (relation_name_at conf place))) named.between f))

-- words that stand in any text
pub macro_names : (is_no_name (codes "ENTITY") ≡ false) × (is_no_name (codes "EVENT") ≡ false) × (is_no_name (codes "ANY") ≡ false) × (is_no_name (codes "RELATION") ≡ false)
unfolding name_fault chars
macro_names = (refl, refl, refl, refl)

pub argument_names : (is_no_name (codes "Arg1") ≡ false) × (is_no_name (codes "Arg2") ≡ false) × (is_no_name (codes "Arg") ≡ false) × (is_no_name (codes "Value") ≡ false)
unfolding name_fault chars
argument_names = (refl, refl, refl, refl)

pub overlap_is_no_name : is_no_declared (codes "<OVERLAP>") ≡ true
unfolding name_fault chars
overlap_is_no_name = refl

pub declared_name : (word : List ℕ) → IsDeclaredName word → is_no_name word ≡ false
declared_name word d = (or_parts (is_no_name word) (slice_index word 0 == 91) (or_parts (is_no_name word || slice_index word 0 == 91) (is_hyphens word) d.faultless).0).0

-- the name of a place in range
at_name : {X : Type 0} (name : X → List ℕ) (P : List ℕ → Type 0) (xs : List X) (place : ℕ) → Each (λ x. P (name x)) xs → place < length xs → P (option_map_or name (slice_get xs place) [])
at_name name P [] place a lt = absurd (omega arith)
at_name name P (x ∷ xs) zero a lt = a.0
at_name name P (x ∷ xs) (suc place) a lt = at_name name P xs place a.1 (omega arith)

among_names : {X : Type 0} (name : X → List ℕ) (xs : List X) (place : ℕ) → place < length xs → is_among (map name xs) (option_map_or name (slice_get xs place) []) ≡ true
among_names name [] place lt = absurd (omega arith)
among_names name (x ∷ xs) zero lt = or_left (bytes_eq (name x) (name x)) (is_among (map name xs) (name x)) (bytes_same (name x) (name x) refl)
among_names name (x ∷ xs) (suc place) lt =
    let word : List ℕ = option_map_or name (slice_get xs place) [] in
    or_right (bytes_eq word (name x)) (is_among (map name xs) word) (among_names name xs place (omega arith))

pub type_name_is : (conf : Configuration) → IsSound conf → (place : ℕ) → place < length conf.types → IsDeclaredName (type_name_at conf place)
type_name_is conf h place lt = at_name (λ row. row.name) IsDeclaredName conf.types place (recursion_from_All (λ row. IsDeclaredName row.name) conf.types h.names) lt

pub relation_name_is : (conf : Configuration) → IsSound conf → (place : ℕ) → place < length conf.relations → IsDeclaredName (relation_name_at conf place)
relation_name_is conf h place lt =
    at_name (λ relation. relation.name) IsDeclaredName conf.relations place
    (each_weaker (IsRelation conf) (λ relation. IsDeclaredName relation.name) (λ relation r. r.name) conf.relations (recursion_from_All (IsRelation conf) conf.relations h.relations)) lt

-- names that may stand hold those of all types, and of all relation types where these may stand
pub record Knows (conf : Configuration) (relations : Bool) (known : List (List ℕ)) : Type 0 where
  pub types : (place : ℕ) → place < length conf.types → is_among known (type_name_at conf place) ≡ true
  pub relations_too : relations ≡ true → (place : ℕ) → place < length conf.relations → is_among known (relation_name_at conf place) ≡ true

pub knows_types : (conf : Configuration) (known : List (List ℕ)) → known ≡ map (λ row. row.name) conf.types → Knows conf false known
knows_types conf known is = record {
  types = λ place lt. ap (λ names. is_among names (type_name_at conf place)) is ∙ among_names (λ row. row.name) conf.types place lt;
  relations_too = λ e. absurd (true≢false (sym e));
}

pub relation_among : (conf : Configuration) (place : ℕ) → place < length conf.relations → is_among (map (λ relation. relation.name) conf.relations) (relation_name_at conf place) ≡ true
relation_among conf place lt = among_names (λ relation. relation.name) conf.relations place lt

-- where no relation types may stand there are none
no_between : (conf : Configuration) (named : Alternatives) → AreTargets conf false named → named.between ≡ []
no_between conf named sound = sym sound.between

-- written alternatives have no fault
pub record AreSpoken (declared known : List (List ℕ)) (relations : Bool) (alternatives : List Alternative) : Type 0 where
  pub names : list_any (λ one. is_no_name (word_of one)) alternatives ≡ false
  pub known_all : list_any (is_unknown [] declared known) alternatives ≡ false
  pub held : list_any (is_unheld [] relations) alternatives ≡ false

pub are_spoken : (conf : Configuration) → IsSound conf → (relations : Bool) (declared known : List (List ℕ)) → Knows conf relations known → (named : Alternatives) → AreTargets conf relations named
    → AreSpoken declared known relations (written_alternatives conf named)
are_spoken conf h relations declared known knows named sound = record {
  names =
      none_passes (λ one. is_no_name (word_of one)) (written_alternatives conf named)
      (each_written (λ one. is_no_name (word_of one) ≡ false) conf named macro_names.0 macro_names.1 macro_names.2 (λ e. macro_names.3)
      (each_weaker (λ place. place < length conf.types) (λ place. is_no_name (type_name_at conf place) ≡ false) (λ place lt. declared_name (type_name_at conf place) (type_name_is conf h place lt)) named.bound bound)
      (each_weaker (λ place. place < length conf.relations) (λ place. is_no_name (relation_name_at conf place) ≡ false) (λ place lt. declared_name (relation_name_at conf place) (relation_name_is conf h place lt)) named.between between));
  known_all =
      none_passes (is_unknown [] declared known) (written_alternatives conf named)
      (each_written (λ one. is_unknown [] declared known one ≡ false) conf named refl refl refl (λ e. refl)
      (each_weaker (λ place. place < length conf.types) (λ place. not (is_among known (type_name_at conf place)) ≡ false) (λ place lt. not_from_true (is_among known (type_name_at conf place)) (knows.types place lt)) named.bound bound)
      (known_between relations knows sound));
  held =
      none_passes (is_unheld [] relations) (written_alternatives conf named)
      (each_written (λ one. is_unheld [] relations one ≡ false) conf named refl refl refl (λ e. relation_held relations sound e)
      (each_weaker (λ place. place < length conf.types) (λ place. is_unheld [] relations (Named (type_name_at conf place)) ≡ false) (λ place lt. refl) named.bound bound)
      (each_weaker (λ place. place < length conf.relations) (λ place. is_unheld [] relations (Named (relation_name_at conf place)) ≡ false) (λ place lt. refl) named.between between));
}
  where
    bound : Each (λ place. place < length conf.types) named.bound
    bound = recursion_from_All (λ place. place < length conf.types) named.bound sound.bound_within

    between : Each (λ place. place < length conf.relations) named.between
    between = recursion_from_All (λ place. place < length conf.relations) named.between sound.between_within

    known_between : (b : Bool) → Knows conf b known → AreTargets conf b named → Each (λ place. not (is_among known (relation_name_at conf place)) ≡ false) named.between
    known_between true k s =
        each_weaker (λ place. place < length conf.relations) (λ place. not (is_among known (relation_name_at conf place)) ≡ false) (λ place lt. not_from_true (is_among known (relation_name_at conf place)) (k.relations_too refl place lt))
        named.between between
    known_between false k s = subst (Each (λ place. not (is_among known (relation_name_at conf place)) ≡ false)) (sym (no_between conf named s)) tt

    relation_held : (b : Bool) → AreTargets conf b named → named.relation ≡ true → is_unheld [] b (Held (codes "RELATION")) ≡ false
    relation_held true s e = refl
    relation_held false s e = absurd (true≢false (sym e ∙ s.relation refl))
