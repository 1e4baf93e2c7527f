-- A configuration that is sound is spelled by its canonical text.
use Rattle.std.proofs.Common.{◌≡◌, ℕ, suc, Bool, true, false, not, ◌||◌, List, [], ◌∷◌, ◌++◌, length, arith, ◌<◌, codes, map, filter, nat_lt, All}
use Rattle.std.proofs.lemmas.Bool.{false≢true}
use Rattle.std.specs.List.{AllByRecursion}
use Rattle.mark_base.specs.Names.{name_fault}
use Rattle.conf_model.specs.ConfPairs.{Named}
use Rattle.conf_model.specs.ConfText.{type_name_at, relation_name_at, has_type_named}
use Rattle.conf_model.specs.Configurations.{Configuration}
use Rattle.conf_model.specs.declared.alternatives.Alternatives.{Alternatives}
use Rattle.conf_model.specs.declared.role.Role.{Role}
use Rattle.conf_model.specs.declared.relation_type.Arguments.{Arguments}
use Rattle.conf_model.specs.declared.relation_type.RelationType.{RelationType}
use Rattle.conf_model.specs.declared.attribute_type.AttributeType.{AttributeType}
use Rattle.conf_model.specs.declared.overlap_line.Overlap.{Overlap}
use Rattle.conf_model.specs.Sound.{IsName, IsDeclaredName, AreTargets, IsRole, AreRoles, AreArguments, IsRelation, IsAttribute, IsOverlap, IsSound}
use Rattle.annotation_conf.proofs.Written.{held_where, IsWord, IsDeclaredWord, IsSpelledChoice, IsSpelledRole, IsSpelledArguments, IsSpelledRelation, IsSpelledAttribute, IsSpelledOverlap, IsSpelled}
use Rattle.annotation_conf.proofs.WrittenNames.{no_fault}
use Rattle.annotation_conf.proofs.WrittenTexts.{each_less}

each_of : {X : Type 0} (P : X → Type 0) (xs : List X) → All P xs → AllByRecursion P xs
each_of P [] h = tt
each_of P (x ∷ xs) h = (h 0 x (omega arith), each_of P xs (λ k d l. h (suc k) d (omega arith)))

each_from : {X : Type 0} (P Q : X → Type 0) → ((x : X) → P x → Q x) → (xs : List X) → All P xs → AllByRecursion Q xs
each_from P Q w xs h = each_less P Q w xs (each_of P xs h)

sound_word : (word : List ℕ) → IsName word → IsWord word
sound_word word h = record { valid = h.valid; faultless = no_fault (name_fault word) h.faultless }

sound_declared : (word : List ℕ) → IsDeclaredName word → IsDeclaredWord word
sound_declared word h = record { valid = h.valid; faultless = h.faultless }

-- alternatives that name something are some
some_written : (conf : Configuration) (entity event any relation : Bool) (bound between : List ℕ)
    → (entity || event || any || relation || nat_lt 0 (length bound) || nat_lt 0 (length between)) ≡ true
    → 0 < length
    (held_where entity (codes "ENTITY") ++ held_where event (codes "EVENT") ++ held_where any (codes "ANY") ++ held_where relation (codes "RELATION")
    ++ map (λ place. Named (type_name_at conf place)) bound ++ map (λ place. Named (relation_name_at conf place)) (filter (λ place. not (has_type_named conf bound (relation_name_at conf place))) between))
some_written conf true event any relation bound between h = omega arith
some_written conf false true any relation bound between h = omega arith
some_written conf false false true relation bound between h = omega arith
some_written conf false false false true bound between h = omega arith
some_written conf false false false false (place ∷ bound) between h = omega arith
some_written conf false false false false [] (place ∷ between) h = omega arith
some_written conf false false false false [] [] h = absurd (false≢true h)

sound_choice : (conf : Configuration) (relations : Bool) (named : Alternatives) → AreTargets conf relations named → IsSpelledChoice conf named
sound_choice conf relations named h = record {
  some = some_written conf named.entity named.event named.any named.relation named.bound named.between h.some;
  bound = each_of (λ place. place < length conf.types) named.bound h.bound_within;
  between = each_of (λ place. place < length conf.relations) named.between h.between_within;
}

sound_role : (conf : Configuration) (role : Role) → IsRole conf role → IsSpelledRole conf role
sound_role conf role h = record { word = sound_word role.name h.name; targets = sound_choice conf false role.targets h.targets }

sound_arguments : (conf : Configuration) (line : Arguments) → AreArguments conf line → IsSpelledArguments conf line
sound_arguments conf line h = record { first = sound_choice conf false line.first h.first; second = sound_choice conf false line.second h.second }

sound_relation : (conf : Configuration) (relation : RelationType) → IsRelation conf relation → IsSpelledRelation conf relation
sound_relation conf relation h = record {
  word = sound_declared relation.name h.name;
  first = sound_word relation.first h.first;
  second = sound_word relation.second h.second;
  lines = each_from (AreArguments conf) (IsSpelledArguments conf) (sound_arguments conf) relation.lines h.lines;
}

sound_attribute : (conf : Configuration) (attribute : AttributeType) → IsAttribute conf attribute → IsSpelledAttribute conf attribute
sound_attribute conf attribute h = record {
  word = sound_declared attribute.name h.name;
  targets = sound_choice conf true attribute.targets h.targets;
  values = each_from IsName IsWord sound_word attribute.values h.values;
}

sound_overlap : (conf : Configuration) (line : Overlap) → IsOverlap conf line → IsSpelledOverlap conf line
sound_overlap conf line h = record { first = sound_choice conf false line.first h.first; second = sound_choice conf false line.second h.second }

pub sound_spelled : (conf : Configuration) → IsSound conf → IsSpelled conf
sound_spelled conf h = record {
  types = each_from (λ row. IsDeclaredName row.name) (λ row. IsDeclaredWord row.name) (λ row k. sound_declared row.name k) conf.types h.names;
  roles =
      each_from (AreRoles conf) (λ roles. AllByRecursion (IsSpelledRole conf) roles)
      (λ roles k. each_from (IsRole conf) (IsSpelledRole conf) (sound_role conf) roles k.each) conf.roles h.roles;
  relations = each_from (IsRelation conf) (IsSpelledRelation conf) (sound_relation conf) conf.relations h.relations;
  attributes = each_from (IsAttribute conf) (IsSpelledAttribute conf) (sound_attribute conf) conf.attributes h.attributes;
  overlaps = each_from (IsOverlap conf) (IsSpelledOverlap conf) (sound_overlap conf) conf.overlaps h.overlaps;
}
