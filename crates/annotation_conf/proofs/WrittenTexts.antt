-- The canonical text is its lines, each with its end, and each of them is read back.
use Rattle.std.proofs.Common.{◌≡◌, refl, sym, ap, ap₂, ◌∙◌, ℕ, zero, suc, ◌+◌, Bool, true, false, List, [], ◌∷◌, ◌++◌, length, append_assoc, nat_lt, if◌then◌else◌, codes, map, filter, replicate, slice_get, flat_map}
use Rattle.std.proofs.lemmas.Bool.{cond_both}
use Rattle.std.proofs.lemmas.List.{map-append}
use Rattle.std.proofs.lemmas.List.Concat.{flat_map-append}
use Rattle.std.specs.Option.{option_map_or}
use Rattle.std.specs.List.{join_with_byte, enumerate_from, AllByRecursion}
use Rattle.type_hierarchy.specs.declared.type_row.TypeRow.{TypeRow}
use Rattle.conf_model.specs.ConfText.{depth_by, where_so, role_text, pair_text, line_text, type_text, relation_text, overlap_text, attribute_text, conf_text}
use Rattle.conf_model.specs.Configurations.{Configuration}
use Rattle.conf_model.specs.declared.relation_type.Arguments.{Arguments}
use Rattle.conf_model.specs.declared.relation_type.RelationType.{RelationType}
use Rattle.conf_model.specs.declared.attribute_type.AttributeType.{AttributeType}
use Rattle.conf_model.specs.declared.overlap_line.Overlap.{Overlap}
use Rattle.annotation_conf.proofs.Written.{entity_rows, event_rows, with_lines, relation_rows, roles_at, written_role, relation_pieces, overlap_kinds, overlap_pieces, attribute_pieces, body, type_body, relation_body, overlap_body, attribute_body, entity_bodies, relation_bodies, event_bodies, attribute_bodies, IsDeclaredWord, IsSpelledRole, IsSpelledArguments, IsSpelledRelation, IsSpelledAttribute, IsSpelledOverlap, IsSpelled}
use Rattle.annotation_conf.proofs.WrittenTails.{roles_read, relation_tail, overlap_tail, attribute_tail}
use Rattle.annotation_conf.proofs.WrittenLines.{IsNamedText, IsTypeText, declared_read, overlap_read, type_read}
use Rattle.annotation_conf.proofs.WrittenBreaks.{ended}

-- The text as lines.

-- the lines of the four sections
abbrev pub all_bodies : Configuration → List (List ℕ)
all_bodies conf =
    codes "[entities]" ∷ entity_bodies conf ++ codes "[relations]" ∷ relation_bodies conf ++ codes "[events]" ∷ event_bodies conf
    ++ codes "[attributes]" ∷ attribute_bodies conf

flat_ended : {X : Type 0} (text : X → List ℕ) (line : X → List ℕ) → ((x : X) → text x ≡ ended (line x)) → (xs : List X) → flat_map text xs ≡ flat_map ended (map line xs)
flat_ended text line h [] = refl
flat_ended text line h (x ∷ xs) = ap₂ (λ a b. a ++ b) (h x) (flat_ended text line h xs)

type_ended : (conf : Configuration) (placed : ℕ × TypeRow) → type_text conf placed ≡ ended (type_body conf placed)
type_ended conf placed =
    sym (append_assoc (replicate (depth_by (length conf.types) conf.types placed.0) 9 ++ (if placed.1.usable then [] else codes "!"))
    (body placed.1.name (map (role_text conf) (roles_at conf placed.0))) (codes "\n"))

relation_ended : (conf : Configuration) (relation : RelationType) (lines : List Arguments)
    → flat_map (λ line. line_text relation.name (pair_text conf relation.first line.first ∷ pair_text conf relation.second line.second
    ∷ where_so relation.equivalence (codes "<REL-TYPE>:symmetric-transitive"))) lines
    ≡ flat_map ended (map (relation_body conf) (map (λ line. (relation, line)) lines))
relation_ended conf relation [] = refl
relation_ended conf relation (line ∷ lines) = ap (λ more. ended (relation_body conf (relation, line)) ++ more) (relation_ended conf relation lines)

relations_ended : (conf : Configuration) (relations : List RelationType) → flat_map (relation_text conf) relations ≡ flat_map ended (map (relation_body conf) (flat_map with_lines relations))
relations_ended conf [] = refl
relations_ended conf (relation ∷ relations) =
    ap₂ (λ a b. a ++ b) (relation_ended conf relation relation.lines) (relations_ended conf relations)
    ∙ (sym (flat_map-append ended (map (relation_body conf) (with_lines relation)) (map (relation_body conf) (flat_map with_lines relations)))
    ∙ ap (flat_map ended) (sym (map-append (relation_body conf) (with_lines relation) (flat_map with_lines relations))))

regrouped : (a b c d e f g h i : List ℕ) → a ++ b ++ c ++ d ++ e ++ f ++ g ++ h ++ i ≡ (a ++ b) ++ (c ++ (d ++ e)) ++ (f ++ g) ++ (h ++ i)
regrouped a b c d e f g h i = simp append_assoc

four_ended : (a b c d : List (List ℕ)) → flat_map ended (a ++ b ++ c ++ d) ≡ flat_map ended a ++ flat_map ended b ++ flat_map ended c ++ flat_map ended d
four_ended a b c d = simp flat_map-append

pub text_ended : (conf : Configuration) → conf_text conf ≡ flat_map ended (all_bodies conf)
unfolding conf_text
text_ended conf =
    let entities = flat_ended (type_text conf) (type_body conf) (type_ended conf) (entity_rows conf) in
    let relations = relations_ended conf conf.relations in
    let overlaps = flat_ended (overlap_text conf) (overlap_body conf) (λ line. refl) conf.overlaps in
    let events = flat_ended (type_text conf) (type_body conf) (type_ended conf) (event_rows conf) in
    let attributes = flat_ended (attribute_text conf) (attribute_body conf) (λ attribute. refl) conf.attributes in
    let both = sym (flat_map-append ended (map (relation_body conf) (relation_rows conf)) (map (overlap_body conf) conf.overlaps)) in
    (λ i. codes "[entities]\n" ++ entities i ++ codes "[relations]\n" ++ relations i ++ overlaps i ++ codes "[events]\n" ++ events i ++ codes "[attributes]\n" ++ attributes i)
    ∙ (regrouped (codes "[entities]\n") (flat_map ended (entity_bodies conf)) (codes "[relations]\n") (flat_map ended (map (relation_body conf) (relation_rows conf)))
    (flat_map ended (map (overlap_body conf) conf.overlaps)) (codes "[events]\n") (flat_map ended (event_bodies conf)) (codes "[attributes]\n") (flat_map ended (attribute_bodies conf))
    ∙ (ap (λ middle. (codes "[entities]\n" ++ flat_map ended (entity_bodies conf)) ++ (codes "[relations]\n" ++ middle) ++ (codes "[events]\n" ++ flat_map ended (event_bodies conf))
    ++ (codes "[attributes]\n" ++ flat_map ended (attribute_bodies conf))) both
    ∙ sym (four_ended (codes "[entities]" ∷ entity_bodies conf) (codes "[relations]" ∷ relation_bodies conf) (codes "[events]" ∷ event_bodies conf) (codes "[attributes]" ∷ attribute_bodies conf))))

-- Each line, read back.

-- what holds of each element, of an element by its place, of elements that are numbered, kept or made
each_at : {X : Type 0} (P : List X → Type 0) (xss : List (List X)) → AllByRecursion P xss → P [] → (place : ℕ) → P (option_map_or (λ xs. xs) (slice_get xss place) [])
each_at P [] h none place = none
each_at P (xs ∷ xss) h none zero = h.0
each_at P (xs ∷ xss) h none (suc place) = each_at P xss h.1 none place

each_enumerated : {X : Type 0} (P : X → Type 0) (n : ℕ) (xs : List X) → AllByRecursion P xs → AllByRecursion (λ placed. P placed.1) (enumerate_from n xs)
each_enumerated P n [] h = tt
each_enumerated P n (x ∷ xs) h = (h.0, each_enumerated P (n + 1) xs h.1)

each_filtered : {X : Type 0} (P : X → Type 0) (test : X → Bool) (xs : List X) → AllByRecursion P xs → AllByRecursion P (filter test xs)
each_filtered P test [] h = tt
each_filtered P test (x ∷ xs) h = cond_both (test x) (x ∷ filter test xs) (filter test xs) (AllByRecursion P) (λ e. (h.0, each_filtered P test xs h.1)) (λ e. each_filtered P test xs h.1)

pub each_less : {X : Type 0} (P Q : X → Type 0) → ((x : X) → P x → Q x) → (xs : List X) → AllByRecursion P xs → AllByRecursion Q xs
each_less P Q w [] h = tt
each_less P Q w (x ∷ xs) h = (w x h.0, each_less P Q w xs h.1)

pub each_mapped : {X Y : Type 0} (P : Y → Type 0) (f : X → Y) (xs : List X) → AllByRecursion (λ x. P (f x)) xs → AllByRecursion P (map f xs)
each_mapped P f [] h = tt
each_mapped P f (x ∷ xs) h = (h.0, each_mapped P f xs h.1)

pub each_append : {X : Type 0} (P : X → Type 0) (xs ys : List X) → AllByRecursion P xs → AllByRecursion P ys → AllByRecursion P (xs ++ ys)
each_append P [] ys hx hy = hy
each_append P (x ∷ xs) ys hx hy = (hx.0, each_append P xs ys hx.1 hy)

-- a type, by its place
abbrev pub IsTypeRow : Configuration → ℕ × TypeRow → Type 0
IsTypeRow conf placed =
    IsTypeText (type_body conf placed) (depth_by (length conf.types) conf.types placed.0) placed.1.usable placed.1.name (map (written_role conf) (roles_at conf placed.0))

row_read : (conf : Configuration) → IsSpelled conf → (placed : ℕ × TypeRow) → IsDeclaredWord placed.1.name → IsTypeRow conf placed
row_read conf spelled placed h =
    type_read (depth_by (length conf.types) conf.types placed.0) placed.1.usable placed.1.name (map (role_text conf) (roles_at conf placed.0)) (map (written_role conf) (roles_at conf placed.0)) h
    (roles_read conf spelled (roles_at conf placed.0) (each_at (AllByRecursion (IsSpelledRole conf)) conf.roles spelled.roles tt placed.0))

rows_declared : (conf : Configuration) → IsSpelled conf → AllByRecursion (λ placed. IsDeclaredWord placed.1.name) (enumerate_from 0 conf.types)
rows_declared conf spelled = each_enumerated (λ row. IsDeclaredWord row.name) 0 conf.types spelled.types

pub entities_read : (conf : Configuration) → IsSpelled conf → AllByRecursion (IsTypeRow conf) (entity_rows conf)
entities_read conf spelled =
    each_less (λ placed. IsDeclaredWord placed.1.name) (IsTypeRow conf) (row_read conf spelled) (entity_rows conf)
    (each_filtered (λ placed. IsDeclaredWord placed.1.name) (λ placed. if placed.1.event then false else true) (enumerate_from 0 conf.types) (rows_declared conf spelled))

pub events_read : (conf : Configuration) → IsSpelled conf → AllByRecursion (IsTypeRow conf) (event_rows conf)
events_read conf spelled =
    each_less (λ placed. IsDeclaredWord placed.1.name) (IsTypeRow conf) (row_read conf spelled) (event_rows conf)
    (each_filtered (λ placed. IsDeclaredWord placed.1.name) (λ placed. placed.1.event) (enumerate_from 0 conf.types) (rows_declared conf spelled))

-- a line of a relation type
pub record IsRelationRow (conf : Configuration) (row : RelationType × Arguments) : Type 0 where
  pub word : IsDeclaredWord row.0.name
  pub text : IsNamedText (relation_body conf row) row.0.name (relation_pieces conf row)

relation_rows_read : (conf : Configuration) → IsSpelled conf → (relation : RelationType) → IsSpelledRelation conf relation → (lines : List Arguments) → AllByRecursion (IsSpelledArguments conf) lines
    → AllByRecursion (IsRelationRow conf) (map (λ line. (relation, line)) lines)
relation_rows_read conf spelled relation h [] k = tt
relation_rows_read conf spelled relation h (line ∷ lines) k = (
  record {
    word = h.word;
    text =
        declared_read relation.name (pair_text conf relation.first line.first ∷ pair_text conf relation.second line.second
        ∷ where_so relation.equivalence (codes "<REL-TYPE>:symmetric-transitive")) (relation_pieces conf (relation, line)) h.word (relation_tail conf spelled relation h line k.0);
  },
  relation_rows_read conf spelled relation h lines k.1,
)

all_relations_read : (conf : Configuration) → IsSpelled conf → (relations : List RelationType) → AllByRecursion (IsSpelledRelation conf) relations → AllByRecursion (IsRelationRow conf) (flat_map with_lines relations)
all_relations_read conf spelled [] h = tt
all_relations_read conf spelled (relation ∷ relations) h =
    each_append (IsRelationRow conf) (with_lines relation) (flat_map with_lines relations) (relation_rows_read conf spelled relation h.0 relation.lines h.0.lines)
    (all_relations_read conf spelled relations h.1)

pub relations_read : (conf : Configuration) → IsSpelled conf → AllByRecursion (IsRelationRow conf) (relation_rows conf)
relations_read conf spelled = all_relations_read conf spelled conf.relations spelled.relations

-- an overlap line, and the line of an attribute
abbrev pub IsOverlapRow : Configuration → Overlap → Type 0
IsOverlapRow conf line = IsNamedText (overlap_body conf line) (codes "<OVERLAP>") (overlap_pieces conf line)

pub overlaps_read : (conf : Configuration) → IsSpelled conf → AllByRecursion (IsOverlapRow conf) conf.overlaps
overlaps_read conf spelled =
    each_less (IsSpelledOverlap conf) (IsOverlapRow conf)
    (λ line h. overlap_read (pair_text conf (codes "Arg1") line.first ∷ pair_text conf (codes "Arg2") line.second ∷ (codes "<OVL-TYPE>:" ++ join_with_byte 124 (overlap_kinds line)) ∷ [])
    (overlap_pieces conf line) (overlap_tail conf spelled line h)) conf.overlaps spelled.overlaps

abbrev pub IsAttributeRow : Configuration → AttributeType → Type 0
IsAttributeRow conf attribute = IsNamedText (attribute_body conf attribute) attribute.name (attribute_pieces conf attribute)

pub attributes_read : (conf : Configuration) → IsSpelled conf → AllByRecursion (IsAttributeRow conf) conf.attributes
attributes_read conf spelled =
    each_less (IsSpelledAttribute conf) (IsAttributeRow conf)
    (λ attribute h. declared_read attribute.name
    (pair_text conf (codes "Arg") attribute.targets ∷ where_so (nat_lt 0 (length attribute.values)) (codes "Value:" ++ join_with_byte 124 attribute.values))
    (attribute_pieces conf attribute) h.word (attribute_tail conf spelled attribute h)) conf.attributes spelled.attributes
