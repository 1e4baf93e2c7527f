-- What written alternatives hold, and that they resolve to what was written.
use Rattle.std.proofs.Common.{◌≡◌, ℕ, ◌||◌, Bool, true, false, not, cond, List, [], ◌∷◌, ◌++◌, Option, Some, None, map, filter, length, slice_get, bytes_eq, codes, refl, sym, ◌∙◌, ap, ap₂, append_assoc}
use Rattle.std.specs.List.{range_with_len}
use Rattle.std.specs.Option.{option_map_or}
use Rattle.std.proofs.lemmas.Bool.{false_from_ne_true, true≢false}
use Rattle.std.proofs.lemmas.List.Folds.{list_any-append}
use Rattle.conf_model.specs.ConfPairs.{Alternative, Named}
use Rattle.conf_model.specs.ConfNames.{Holding, File, none_held, both_held, one_held, all_held}
use Rattle.conf_model.specs.ConfFaults.{is_among, of_named, bound_names, names_of, firsts}
use Rattle.conf_model.specs.ConfOf.{places_of, resolved}
use Rattle.conf_model.specs.ConfText.{type_name_at, relation_name_at, has_type_named, named_apart}
use Rattle.conf_model.specs.Configurations.{Configuration}
use Rattle.conf_model.specs.declared.alternatives.Alternatives.{Alternatives}
use Rattle.conf_model.specs.Sound.{AreTargets, named_names}
use Rattle.annotation_conf.proofs.FaultLists.{list_any_map}
use Rattle.annotation_conf.proofs.SoundNames.{same_bytes}
use Rattle.annotation_conf.proofs.Written.{held_where, written_alternatives}

-- what two lists of alternatives hold
both_nil : (h : Holding) → h ≡ both_held none_held h
both_nil h = refl

both_assoc : (a b c : Holding) → both_held a (both_held b c) ≡ both_held (both_held a b) c
both_assoc a b c =
    λ i. record {
      entity = or_assoc a.entity b.entity c.entity i;
      event = or_assoc a.event b.event c.event i;
      any = or_assoc a.any b.any c.any i;
      relation = or_assoc a.relation b.relation c.relation i;
      names = sym (append_assoc a.names b.names c.names) i;
    }
  where
    or_assoc : (x y z : Bool) → (x || (y || z)) ≡ ((x || y) || z)
    or_assoc true y z = refl
    or_assoc false y z = refl

pub all_held-append : (xs ys : List Alternative) → all_held [] (xs ++ ys) ≡ both_held (all_held [] xs) (all_held [] ys)
all_held-append [] ys = refl
all_held-append (x ∷ xs) ys = ap (both_held (one_held [] x)) (all_held-append xs ys) ∙ both_assoc (one_held [] x) (all_held [] xs) (all_held [] ys)

-- names alone
abbrev pub names_held : List (List ℕ) → Holding
names_held names = record { entity = false; event = false; any = false; relation = false; names = names }

pub held_names : {X : Type 0} (name : X → List ℕ) (xs : List X) → all_held [] (map (λ x. Named (name x)) xs) ≡ names_held (map name xs)
held_names name [] = refl
held_names name (x ∷ xs) = ap (both_held (names_held (name x ∷ []))) (held_names name xs)

-- the built-in macros
held_entity : (so : Bool) → all_held [] (held_where so (codes "ENTITY")) ≡ record { entity = so; event = false; any = false; relation = false; names = [] }
held_entity true = refl
held_entity false = refl

held_event : (so : Bool) → all_held [] (held_where so (codes "EVENT")) ≡ record { entity = false; event = so; any = false; relation = false; names = [] }
held_event true = refl
held_event false = refl

held_any : (so : Bool) → all_held [] (held_where so (codes "ANY")) ≡ record { entity = false; event = false; any = so; relation = false; names = [] }
held_any true = refl
held_any false = refl

held_relation : (so : Bool) → all_held [] (held_where so (codes "RELATION")) ≡ record { entity = false; event = false; any = false; relation = so; names = [] }
held_relation true = refl
held_relation false = refl

both_are : (entity event any relation : Bool) (b r : List (List ℕ))
    → both_held (both_held (both_held (both_held (both_held (record { entity = entity; event = false; any = false; relation = false; names = [] }) (record { entity = false; event = event; any = false; relation = false; names = [] }))
    (record { entity = false; event = false; any = any; relation = false; names = [] })) (record { entity = false; event = false; any = false; relation = relation; names = [] })) (names_held b)) (names_held r)
    ≡ record { entity = entity; event = event; any = any; relation = relation; names = b ++ r }
both_are true true true true = λ b r. refl
both_are true true true false = λ b r. refl
both_are true true false true = λ b r. refl
both_are true true false false = λ b r. refl
both_are true false true true = λ b r. refl
both_are true false true false = λ b r. refl
both_are true false false true = λ b r. refl
both_are true false false false = λ b r. refl
both_are false true true true = λ b r. refl
both_are false true true false = λ b r. refl
both_are false true false true = λ b r. refl
both_are false true false false = λ b r. refl
both_are false false true true = λ b r. refl
both_are false false true false = λ b r. refl
both_are false false false true = λ b r. refl
both_are false false false false = λ b r. refl

-- the names that are written
abbrev pub written_names : Configuration → Alternatives → List (List ℕ)
written_names conf named = map (type_name_at conf) named.bound ++ map (relation_name_at conf) (named_apart conf named)

-- what written alternatives hold: what is said, and the names that are written
pub held_again : (conf : Configuration) (named : Alternatives) → all_held [] (written_alternatives conf named)
    ≡ record { entity = named.entity; event = named.event; any = named.any; relation = named.relation; names = written_names conf named }
held_again conf named =
    all_held-append (held_where named.entity (codes "ENTITY") ++ held_where named.event (codes "EVENT") ++ held_where named.any (codes "ANY") ++ held_where named.relation (codes "RELATION") ++ map (λ place. Named (type_name_at conf place)) named.bound) (map (λ place. Named (relation_name_at conf place)) (named_apart conf named))
    ∙ ap₂ both_held
    (all_held-append (held_where named.entity (codes "ENTITY") ++ held_where named.event (codes "EVENT") ++ held_where named.any (codes "ANY") ++ held_where named.relation (codes "RELATION")) (map (λ place. Named (type_name_at conf place)) named.bound)
    ∙ ap₂ both_held
    (all_held-append (held_where named.entity (codes "ENTITY") ++ held_where named.event (codes "EVENT") ++ held_where named.any (codes "ANY")) (held_where named.relation (codes "RELATION"))
    ∙ ap₂ both_held
    (all_held-append (held_where named.entity (codes "ENTITY") ++ held_where named.event (codes "EVENT")) (held_where named.any (codes "ANY"))
    ∙ ap₂ both_held
    (all_held-append (held_where named.entity (codes "ENTITY")) (held_where named.event (codes "EVENT")) ∙ ap₂ both_held (held_entity named.entity) (held_event named.event))
    (held_any named.any)) (held_relation named.relation)) (held_names (type_name_at conf) named.bound)) (held_names (relation_name_at conf) (named_apart conf named))
    ∙ both_are named.entity named.event named.any named.relation (map (type_name_at conf) named.bound) (map (relation_name_at conf) (named_apart conf named))

filter_same : {X : Type 0} (p q : X → Bool) (xs : List X) → ((x : X) → p x ≡ q x) → filter p xs ≡ filter q xs
filter_same p q [] same = refl
filter_same p q (x ∷ xs) same = ap (λ b. cond b (x ∷ filter p xs) (filter p xs)) (same x) ∙ ap (λ rest. cond (q x) (x ∷ rest) rest) (filter_same p q xs same)

-- among the names of relation types those that no type has stand alike
among_apart : (conf : Configuration) (bound between : List ℕ) (name : List ℕ) → has_type_named conf bound name ≡ false
    → is_among (map (relation_name_at conf) (filter (λ place. not (has_type_named conf bound (relation_name_at conf place))) between)) name ≡ is_among (map (relation_name_at conf) between) name
among_apart conf bound [] name none = refl
among_apart conf bound (place ∷ between) name none = go (has_type_named conf bound (relation_name_at conf place)) refl (among_apart conf bound between name none)
  where
    other : has_type_named conf bound (relation_name_at conf place) ≡ true → bytes_eq name (relation_name_at conf place) ≡ false
    other e =
        false_from_ne_true (bytes_eq name (relation_name_at conf place))
        (λ f. true≢false (sym (ap (has_type_named conf bound) (same_bytes name (relation_name_at conf place) f) ∙ e) ∙ none))

    kept : List ℕ
    kept = filter (λ other. not (has_type_named conf bound (relation_name_at conf other))) between

    go : (b : Bool) → has_type_named conf bound (relation_name_at conf place) ≡ b
        → is_among (map (relation_name_at conf) kept) name ≡ is_among (map (relation_name_at conf) between) name
        → is_among (map (relation_name_at conf) (cond (not b) (place ∷ kept) kept)) name ≡ (bytes_eq name (relation_name_at conf place) || is_among (map (relation_name_at conf) between) name)
    go false e rest = ap (λ c. bytes_eq name (relation_name_at conf place) || c) rest
    go true e rest = rest ∙ sym (ap (λ c. c || is_among (map (relation_name_at conf) between) name) (other e))

-- the names that are written are those of the places
names_alike : (conf : Configuration) (named : Alternatives) (name : List ℕ) → is_among (written_names conf named) name ≡ is_among (named_names conf named) name
names_alike conf named name =
    list_any-append (bytes_eq name) (map (type_name_at conf) named.bound) (map (relation_name_at conf) (named_apart conf named))
    ∙ go (is_among (map (type_name_at conf) named.bound) name) refl
    ∙ sym (list_any-append (bytes_eq name) (map (type_name_at conf) named.bound) (map (relation_name_at conf) named.between))
  where
    go : (b : Bool) → is_among (map (type_name_at conf) named.bound) name ≡ b
        → (is_among (map (type_name_at conf) named.bound) name || is_among (map (relation_name_at conf) (named_apart conf named)) name)
        ≡ (is_among (map (type_name_at conf) named.bound) name || is_among (map (relation_name_at conf) named.between) name)
    go true e =
        ap (λ b. b || is_among (map (relation_name_at conf) (named_apart conf named)) name) e ∙ sym (ap (λ b. b || is_among (map (relation_name_at conf) named.between) name) e)
    go false e =
        ap (λ c. is_among (map (type_name_at conf) named.bound) name || c)
        (among_apart conf named.bound named.between name (sym (list_any_map (bytes_eq name) (type_name_at conf) named.bound) ∙ e))

places_alike : (conf : Configuration) (named : Alternatives) (names : List (List ℕ)) → places_of (written_names conf named) names ≡ places_of (named_names conf named) names
places_alike conf named names =
    filter_same (λ place. option_map_or (is_among (written_names conf named)) (slice_get names place) false) (λ place. option_map_or (is_among (named_names conf named)) (slice_get names place) false)
    (range_with_len 0 (length names)) (λ place. one (slice_get names place))
  where
    one : (o : Option (List ℕ)) → option_map_or (is_among (written_names conf named)) o false ≡ option_map_or (is_among (named_names conf named)) o false
    one None = refl
    one (Some name) = names_alike conf named name

-- a file that has the names of the configuration and no macros
pub record HasNames (file : File) (conf : Configuration) : Type 0 where
  pub macros : file.macros ≡ []
  pub types : names_of (bound_names file) ≡ map (λ row. row.name) conf.types
  pub relations : names_of (of_named (firsts file.relations)) ≡ map (λ relation. relation.name) conf.relations

-- written alternatives resolve to what was written
pub resolved_again : (file : File) (conf : Configuration) → HasNames file conf → (relations : Bool) (named : Alternatives) → AreTargets conf relations named
    → resolved file relations (written_alternatives conf named) ≡ named
resolved_again file conf has relations named sound =
    ap (λ macros. of_holding (all_held macros (written_alternatives conf named)) (names_of (bound_names file)) (names_of (of_named (firsts file.relations)))) has.macros
    ∙ ap (λ h. of_holding h (names_of (bound_names file)) (names_of (of_named (firsts file.relations)))) (held_again conf named)
    ∙ ap₂ (of_holding (record { entity = named.entity; event = named.event; any = named.any; relation = named.relation; names = written_names conf named })) has.types has.relations
    ∙ ap₂ (λ (b r : List ℕ). record { entity = named.entity; event = named.event; any = named.any; relation = named.relation; bound = b; between = r })
    (places_alike conf named (map (λ row. row.name) conf.types) ∙ sound.bound)
    (ap (λ places. cond relations places []) (places_alike conf named (map (λ relation. relation.name) conf.relations)) ∙ sound.between)
  where
    of_holding : Holding → List (List ℕ) → List (List ℕ) → Alternatives
    of_holding holding types names = record {
      entity = holding.entity;
      event = holding.event;
      any = holding.any;
      relation = holding.relation;
      bound = places_of holding.names types;
      between = cond relations (places_of holding.names names) [];
    }
