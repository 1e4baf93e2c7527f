-- A sound configuration is what its written lines say.
use Rattle.std.proofs.Common.{◌≡◌, ℕ, ◌+◌, ◌≤◌, ◌==◌, ◌||◌, Bool, true, false, not, cond, List, [], ◌∷◌, ◌++◌, map, length, filter, flat_map, codes, nat_lt, refl, sym, ◌∙◌, ap, ap₂, arith, append-nil, map-id}
use Rattle.std.specs.List.{slice_split, join_with_byte}
use Rattle.std.proofs.lemmas.Bool.{ltb-false}
use Rattle.std.proofs.lemmas.List.{nil_from_length}
use Rattle.std.proofs.lemmas.List.Elements.{recursion_from_All}
use Rattle.conf_model.specs.ConfPairs.{Piece, Pair, Named}
use Rattle.conf_model.specs.ConfFaults.{RolePair, pairs_of, is_values, is_among, word_of}
use Rattle.conf_model.specs.ConfOf.{overlap_of, attribute_of, resolved, configuration_of}
use Rattle.conf_model.specs.ConfText.{where_so}
use Rattle.conf_model.specs.Configurations.{Configuration}
use Rattle.conf_model.specs.declared.alternatives.Alternatives.{Alternatives}
use Rattle.conf_model.specs.declared.attribute_type.AttributeType.{AttributeType}
use Rattle.conf_model.specs.declared.overlap_line.Overlap.{Overlap}
use Rattle.conf_model.specs.Sound.{IsAttribute, IsOverlap, IsSound}
use Rattle.annotation_conf.proofs.SoundLists.{each_weaker}
use Rattle.annotation_conf.proofs.SoundHeld.{resolved_again}
use Rattle.annotation_conf.proofs.SoundNumbered.{map-numbered}
use Rattle.annotation_conf.proofs.SoundRelationsAgain.{has_names, relations_again}
use Rattle.annotation_conf.proofs.SoundTypesAgain.{types_again, roles_again}
use Rattle.annotation_conf.proofs.Written.{written_file, written_overlap, written_attribute, written_pair, written_alternatives, relations_head, attributes_head, relation_rows}

-- the kinds of an overlap line
abbrev pub kinds_of : Bool → Bool → Bool → Bool → List (List ℕ)
kinds_of contain equal cross any = where_so contain (codes "contain") ++ where_so equal (codes "equal") ++ where_so cross (codes "cross") ++ where_so any (codes "<ANY>")

abbrev pub kind_among : Bool → Bool → Bool → Bool → List ℕ → Bool
kind_among contain equal cross any word = is_among (slice_split (λ c. c == 124) (join_with_byte 124 (kinds_of contain equal cross any))) word || false

kinds_again : (contain equal cross any : Bool)
    → (kind_among contain equal cross any (codes "contain") ≡ contain) × (kind_among contain equal cross any (codes "equal") ≡ equal)
    × (kind_among contain equal cross any (codes "cross") ≡ cross) × (kind_among contain equal cross any (codes "<ANY>") ≡ any)
kinds_again true true true true = (refl, refl, refl, refl)
kinds_again true true true false = (refl, refl, refl, refl)
kinds_again true true false true = (refl, refl, refl, refl)
kinds_again true true false false = (refl, refl, refl, refl)
kinds_again true false true true = (refl, refl, refl, refl)
kinds_again true false true false = (refl, refl, refl, refl)
kinds_again true false false true = (refl, refl, refl, refl)
kinds_again true false false false = (refl, refl, refl, refl)
kinds_again false true true true = (refl, refl, refl, refl)
kinds_again false true true false = (refl, refl, refl, refl)
kinds_again false true false true = (refl, refl, refl, refl)
kinds_again false true false false = (refl, refl, refl, refl)
kinds_again false false true true = (refl, refl, refl, refl)
kinds_again false false true false = (refl, refl, refl, refl)
kinds_again false false false true = (refl, refl, refl, refl)
kinds_again false false false false = (refl, refl, refl, refl)

overlap_again : (conf : Configuration) → IsSound conf → (line : Overlap) → IsOverlap conf line → (k : ℕ) → overlap_of (written_file conf) (written_overlap conf k line) ≡ line
overlap_again conf s line a k =
    let first = resolved_again (written_file conf) conf (has_names conf s) false line.first a.first in
    let second = resolved_again (written_file conf) conf (has_names conf s) false line.second a.second in
    let kinds = kinds_again line.contain line.equal line.cross line.any in
    λ i. record { first = first i; second = second i; contain = kinds.0 i; equal = kinds.1 i; cross = kinds.2 i; any = kinds.3 i }

pub overlaps_again : (conf : Configuration) → IsSound conf → (configuration_of (written_file conf)).overlaps ≡ conf.overlaps
overlaps_again conf s =
    map-numbered (written_overlap conf) (overlap_of (written_file conf)) (λ line. line) (relations_head conf + 1 + length (relation_rows conf)) conf.overlaps
    (each_weaker (IsOverlap conf) (λ line. (k : ℕ) → overlap_of (written_file conf) (written_overlap conf k line) ≡ line) (λ line a k. overlap_again conf s line a k) conf.overlaps (recursion_from_All (IsOverlap conf) conf.overlaps s.overlaps))
    ∙ map-id conf.overlaps

-- the pairs of an attribute, with values or not
abbrev pub values_piece : AttributeType → Bool → List Piece
values_piece attribute b = cond b (Pair (codes "Value") [] (map (λ value. Named value) attribute.values) ∷ []) []

abbrev pub attribute_pairs_of : Configuration → AttributeType → Bool → List RolePair
attribute_pairs_of conf attribute b = pairs_of (written_pair conf (codes "Arg") attribute.targets ∷ values_piece attribute b)

words_again : (values : List (List ℕ)) → map word_of (map (λ value. Named value) values) ≡ values
words_again [] = refl
words_again (value ∷ values) = ap (λ (rest : List (List ℕ)). value ∷ rest) (words_again values)

targets_are : (conf : Configuration) (attribute : AttributeType) (b : Bool)
    → flat_map (λ (pair : RolePair). pair.alternatives) (filter (λ pair. not (is_values pair)) (attribute_pairs_of conf attribute b)) ≡ written_alternatives conf attribute.targets
targets_are conf attribute true = append-nil (written_alternatives conf attribute.targets)
targets_are conf attribute false = append-nil (written_alternatives conf attribute.targets)

values_are : (conf : Configuration) (attribute : AttributeType) (b : Bool) → nat_lt 0 (length attribute.values) ≡ b
    → flat_map (λ (pair : RolePair). map word_of pair.alternatives) (filter is_values (attribute_pairs_of conf attribute b)) ≡ attribute.values
values_are conf attribute true e = append-nil (map word_of (map (λ value. Named value) attribute.values)) ∙ words_again attribute.values
values_are conf attribute false e = sym (nil_from_length attribute.values (let none : length attribute.values ≤ 0 = ltb-false 0 (length attribute.values) e in omega arith))

attribute_again : (conf : Configuration) → IsSound conf → (attribute : AttributeType) → IsAttribute conf attribute → (k : ℕ) → attribute_of (written_file conf) (written_attribute conf k attribute) ≡ attribute
attribute_again conf s attribute a k =
    ap₂ (λ (targets : Alternatives) (values : List (List ℕ)). record { name = attribute.name; targets = targets; values = values })
    (ap (resolved (written_file conf) true) (targets_are conf attribute (nat_lt 0 (length attribute.values))) ∙ resolved_again (written_file conf) conf (has_names conf s) true attribute.targets a.targets)
    (values_are conf attribute (nat_lt 0 (length attribute.values)) refl)

pub attributes_again : (conf : Configuration) → IsSound conf → (configuration_of (written_file conf)).attributes ≡ conf.attributes
attributes_again conf s =
    map-numbered (written_attribute conf) (attribute_of (written_file conf)) (λ attribute. attribute) (attributes_head conf + 1) conf.attributes
    (each_weaker (IsAttribute conf) (λ attribute. (k : ℕ) → attribute_of (written_file conf) (written_attribute conf k attribute) ≡ attribute) (λ attribute a k. attribute_again conf s attribute a k) conf.attributes
    (recursion_from_All (IsAttribute conf) conf.attributes s.attributes))
    ∙ map-id conf.attributes

pub configuration_again : (conf : Configuration) → IsSound conf → configuration_of (written_file conf) ≡ conf
configuration_again conf s =
    let types = types_again conf s in
    let roles = roles_again conf s (has_names conf s) in
    let relations = relations_again conf s in
    let attributes = attributes_again conf s in
    let overlaps = overlaps_again conf s in
    λ i. record { types = types i; roles = roles i; relations = relations i; attributes = attributes i; overlaps = overlaps i }
