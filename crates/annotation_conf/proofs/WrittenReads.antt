-- The canonical text of a configuration spells the file that is written, and is UTF-8.
use Rattle.std.proofs.Common.{◌≡◌, refl, sym, ap, ap₂, ◌∙◌, ℕ, ◌+◌, Bool, true, false, not, List, [], ◌∷◌, ◌++◌, length, append_assoc, append-nil, arith, Some, IsUtf8, codes, map, filter, bytes_eq, length-append, subst}
use Rattle.std.proofs.lemmas.Bool.{cond-true, cond-false, false_from_ne_true, true≢false, not_from_true, not_from_false}
use Rattle.std.proofs.lemmas.List.{length-map}
use Rattle.std.proofs.lemmas.List.Elements.{filter-append}
use Rattle.std.proofs.lemmas.Slice.Eq.{bytes_eq-Decides}
use Rattle.std.proofs.lemmas.Str.{utf8_valid_len-IsUtf8}
use Rattle.std.specs.Str.{chars, NonePass, skip_leading_whitespace}
use Rattle.std.specs.Str.Lossy.{utf8_valid_len}
use Rattle.std.specs.Str.Lines.{lines}
use Rattle.std.specs.List.{AllByRecursion}
use Rattle.mark_base.specs.Names.{name_fault}
use Rattle.conf_model.specs.ConfLines.{Section, Entities, Relations, Events, Attributes, Before, Within, Header, Line, kind_of, lines_from, file_lines}
use Rattle.conf_model.specs.ConfNames.{NamedLine, type_line, named_line, section_lines, is_overlap, macros_from, file_of_lines, file_of}
use Rattle.conf_model.specs.ConfFaults.{is_no_declared}
use Rattle.conf_model.specs.ConfPairs.{Piece}
use Rattle.conf_model.specs.ConfText.{conf_text}
use Rattle.conf_model.specs.Configurations.{Configuration}
use Rattle.conf_model.specs.declared.relation_type.Arguments.{Arguments}
use Rattle.conf_model.specs.declared.relation_type.RelationType.{RelationType}
use Rattle.conf_model.specs.declared.overlap_line.Overlap.{Overlap}
use Rattle.annotation_conf.proofs.Written.{entity_rows, event_rows, relation_rows, relations_head, events_head, attributes_head, written_type, written_relation, written_overlap, written_attribute, relation_pieces, overlap_pieces, numbered, type_body, relation_body, overlap_body, attribute_body, entity_bodies, relation_bodies, event_bodies, attribute_bodies, written_section, written_file, IsDeclaredWord, IsSpelled}
use Rattle.annotation_conf.proofs.WrittenNames.{spells_valid, spells_plain, is_wide}
use Rattle.annotation_conf.proofs.WrittenChoices.{none_by}
use Rattle.annotation_conf.proofs.WrittenTails.{is_end, skip_none}
use Rattle.annotation_conf.proofs.WrittenLines.{IsContent, IsNamedText}
use Rattle.annotation_conf.proofs.WrittenBreaks.{IsLine, lines_ended, ended_valid}
use Rattle.annotation_conf.proofs.WrittenTexts.{all_bodies, text_ended, each_less, each_mapped, each_append, IsTypeRow, IsRelationRow, IsOverlapRow, IsAttributeRow, entities_read, events_read, relations_read, overlaps_read, attributes_read}
use Rattle.annotation_conf.proofs.WrittenSections.{section_from, section-append, section_read, section_passed, rows_read, numbered-append, section_macros}

-- Each line is one.

contents_of : {X : Type 0} (P : X → Type 0) (text : X → List ℕ) → ((x : X) → P x → IsContent (text x)) → (xs : List X) → AllByRecursion P xs → AllByRecursion IsContent (map text xs)
contents_of P text content xs h = each_mapped IsContent text xs (each_less P (λ x. IsContent (text x)) content xs h)

entity_contents : (conf : Configuration) → IsSpelled conf → AllByRecursion IsContent (entity_bodies conf)
entity_contents conf spelled = contents_of (IsTypeRow conf) (type_body conf) (λ placed h. h.content) (entity_rows conf) (entities_read conf spelled)

event_contents : (conf : Configuration) → IsSpelled conf → AllByRecursion IsContent (event_bodies conf)
event_contents conf spelled = contents_of (IsTypeRow conf) (type_body conf) (λ placed h. h.content) (event_rows conf) (events_read conf spelled)

relation_contents : (conf : Configuration) → IsSpelled conf → AllByRecursion IsContent (relation_bodies conf)
relation_contents conf spelled =
    each_append IsContent (map (relation_body conf) (relation_rows conf)) (map (overlap_body conf) conf.overlaps)
    (contents_of (IsRelationRow conf) (relation_body conf) (λ row h. h.text.content) (relation_rows conf) (relations_read conf spelled))
    (contents_of (IsOverlapRow conf) (overlap_body conf) (λ line h. h.content) conf.overlaps (overlaps_read conf spelled))

attribute_contents : (conf : Configuration) → IsSpelled conf → AllByRecursion IsContent (attribute_bodies conf)
attribute_contents conf spelled = contents_of (IsAttributeRow conf) (attribute_body conf) (λ attribute h. h.content) conf.attributes (attributes_read conf spelled)

content_lines : (texts : List (List ℕ)) → AllByRecursion IsContent texts → AllByRecursion IsLine texts
content_lines texts h = each_less IsContent IsLine (λ text k. record { valid = k.valid; unbroken = k.unbroken }) texts h

plain_valid : (text : List ℕ) → NonePass is_wide text → IsUtf8 text
plain_valid text h = spells_valid text text (spells_plain text h)

entities_line : IsLine (codes "[entities]")
unfolding chars
entities_line = record { valid = plain_valid (codes "[entities]") (none_by is_wide (codes "[entities]") refl); unbroken = none_by is_end (codes "[entities]") refl }

relations_line : IsLine (codes "[relations]")
unfolding chars
relations_line = record { valid = plain_valid (codes "[relations]") (none_by is_wide (codes "[relations]") refl); unbroken = none_by is_end (codes "[relations]") refl }

events_line : IsLine (codes "[events]")
unfolding chars
events_line = record { valid = plain_valid (codes "[events]") (none_by is_wide (codes "[events]") refl); unbroken = none_by is_end (codes "[events]") refl }

attributes_line : IsLine (codes "[attributes]")
unfolding chars
attributes_line = record { valid = plain_valid (codes "[attributes]") (none_by is_wide (codes "[attributes]") refl); unbroken = none_by is_end (codes "[attributes]") refl }

all_lines : (conf : Configuration) → IsSpelled conf → AllByRecursion IsLine (all_bodies conf)
all_lines conf spelled =
    let e = codes "[entities]" ∷ entity_bodies conf in
    let r = codes "[relations]" ∷ relation_bodies conf in
    let v = codes "[events]" ∷ event_bodies conf in
    let a = codes "[attributes]" ∷ attribute_bodies conf in
    each_append IsLine (e ++ r ++ v) a
    (each_append IsLine (e ++ r) v
    (each_append IsLine e r (entities_line, content_lines (entity_bodies conf) (entity_contents conf spelled))
    (relations_line, content_lines (relation_bodies conf) (relation_contents conf spelled)))
    (events_line, content_lines (event_bodies conf) (event_contents conf spelled)))
    (attributes_line, content_lines (attribute_bodies conf) (attribute_contents conf spelled))

-- the canonical text is UTF-8
pub text_valid : (conf : Configuration) → IsSpelled conf → IsUtf8 (conf_text conf)
text_valid conf spelled = subst IsUtf8 (sym (text_ended conf)) (ended_valid (all_bodies conf) (all_lines conf spelled))

pub written_valid : (conf : Configuration) → IsSpelled conf → utf8_valid_len (conf_text conf) ≡ length (conf_text conf)
written_valid conf spelled = utf8_valid_len-IsUtf8 (conf_text conf) (text_valid conf spelled)

-- The lines by their sections.

entities_named : kind_of (chars (codes "[entities]")) ≡ Header (Some Entities)
unfolding chars
entities_named = refl

relations_named : kind_of (chars (codes "[relations]")) ≡ Header (Some Relations)
unfolding chars
relations_named = refl

events_named : kind_of (chars (codes "[events]")) ≡ Header (Some Events)
unfolding chars
events_named = refl

attributes_named : kind_of (chars (codes "[attributes]")) ≡ Header (Some Attributes)
unfolding chars
attributes_named = refl

regrouped : {X : Type 0} (a b c d : List X) → a ++ b ++ c ++ d ≡ a ++ (b ++ (c ++ (d ++ [])))
regrouped a b c d = simp (append_assoc, append-nil)

-- the numbers of the section lines follow one another
second_head : (conf : Configuration) → 1 + 1 + length (entity_bodies conf) ≡ relations_head conf
second_head conf = omega (arith, length-map (entity_rows conf) (type_body conf))

third_head : (conf : Configuration) → relations_head conf + 1 + length (relation_bodies conf) ≡ events_head conf
third_head conf =
    omega (
      arith,
      length-append (map (relation_body conf) (relation_rows conf)) (map (overlap_body conf) conf.overlaps),
      length-map (relation_rows conf) (relation_body conf),
      length-map conf.overlaps (overlap_body conf),
    )

fourth_head : (conf : Configuration) → events_head conf + 1 + length (event_bodies conf) ≡ attributes_head conf
fourth_head conf = omega (arith, length-map (event_rows conf) (type_body conf))

-- the lines that are written
abbrev written_lines : Configuration → List Line
written_lines conf =
    written_section Entities 1 (entity_bodies conf) ++ written_section Relations (relations_head conf) (relation_bodies conf)
    ++ written_section Events (events_head conf) (event_bodies conf) ++ written_section Attributes (attributes_head conf) (attribute_bodies conf)

lines_read : (conf : Configuration) → IsSpelled conf → lines_from 1 Before (all_bodies conf) ≡ written_lines conf
lines_read conf spelled =
    let e = codes "[entities]" ∷ entity_bodies conf in
    let r = codes "[relations]" ∷ relation_bodies conf in
    let v = codes "[events]" ∷ event_bodies conf in
    let a = codes "[attributes]" ∷ attribute_bodies conf in
    let first = written_section Entities 1 (entity_bodies conf) in
    let second = written_section Relations (relations_head conf) (relation_bodies conf) in
    let third = written_section Events (events_head conf) (event_bodies conf) in
    let fourth = written_section Attributes (attributes_head conf) (attribute_bodies conf) in
    ap (lines_from 1 Before) (regrouped e r v a)
    ∙ (section_from Entities (codes "[entities]") 1 Before (entity_bodies conf) (r ++ (v ++ (a ++ []))) entities_named (entity_contents conf spelled)
    ∙ (ap (λ n. first ++ lines_from n (Within Entities) (r ++ (v ++ (a ++ [])))) (second_head conf)
    ∙ (ap (λ rest. first ++ rest)
    (section_from Relations (codes "[relations]") (relations_head conf) (Within Entities) (relation_bodies conf) (v ++ (a ++ [])) relations_named (relation_contents conf spelled)
    ∙ (ap (λ n. second ++ lines_from n (Within Relations) (v ++ (a ++ []))) (third_head conf)
    ∙ ap (λ rest. second ++ rest)
    (section_from Events (codes "[events]") (events_head conf) (Within Relations) (event_bodies conf) (a ++ []) events_named (event_contents conf spelled)
    ∙ (ap (λ n. third ++ lines_from n (Within Events) (a ++ [])) (fourth_head conf)
    ∙ ap (λ rest. third ++ rest)
    (section_from Attributes (codes "[attributes]") (attributes_head conf) (Within Events) (attribute_bodies conf) [] attributes_named (attribute_contents conf spelled))))))
    ∙ sym (regrouped first second third fourth))))

pub file_lines_read : (conf : Configuration) → IsSpelled conf → file_lines (conf_text conf) ≡ written_lines conf
file_lines_read conf spelled =
    ap (λ text. lines_from 1 Before (lines text)) (text_ended conf) ∙ (ap (lines_from 1 Before) (lines_ended (all_bodies conf) (all_lines conf spelled)) ∙ lines_read conf spelled)

-- What the lines declare.

four_sections : {X : Type 0} (section : Section) (read : ℕ → List ℕ → X) (a b c d : List Line)
    → section_lines section read (a ++ b ++ c ++ d) ≡ section_lines section read a ++ section_lines section read b ++ section_lines section read c ++ section_lines section read d
four_sections section read a b c d =
    section-append section read (a ++ b ++ c) d
    ∙ ap (λ front. front ++ section_lines section read d)
    (section-append section read (a ++ b) c ∙ ap (λ front. front ++ section_lines section read c) (section-append section read a b))

entities_declared : (conf : Configuration) → IsSpelled conf → section_lines Entities type_line (written_lines conf) ≡ numbered (written_type conf) 2 (entity_rows conf)
entities_declared conf spelled =
    four_sections Entities type_line (written_section Entities 1 (entity_bodies conf)) (written_section Relations (relations_head conf) (relation_bodies conf))
    (written_section Events (events_head conf) (event_bodies conf)) (written_section Attributes (attributes_head conf) (attribute_bodies conf))
    ∙ ((λ i. (section_read Entities Entities type_line refl 1 (entity_bodies conf)
    ∙ rows_read type_line (type_body conf) (written_type conf) (entity_rows conf)
    (each_less (IsTypeRow conf) (λ placed. (number : ℕ) → type_line number (chars (type_body conf placed)) ≡ written_type conf number placed) (λ placed h. h.read) (entity_rows conf) (entities_read conf spelled)) 2) i
    ++ section_passed Entities Relations type_line refl (relations_head conf) (relation_bodies conf) i
    ++ section_passed Entities Events type_line refl (events_head conf) (event_bodies conf) i
    ++ section_passed Entities Attributes type_line refl (attributes_head conf) (attribute_bodies conf) i)
    ∙ simp append-nil)

events_declared : (conf : Configuration) → IsSpelled conf → section_lines Events type_line (written_lines conf) ≡ numbered (written_type conf) (events_head conf + 1) (event_rows conf)
events_declared conf spelled =
    four_sections Events type_line (written_section Entities 1 (entity_bodies conf)) (written_section Relations (relations_head conf) (relation_bodies conf))
    (written_section Events (events_head conf) (event_bodies conf)) (written_section Attributes (attributes_head conf) (attribute_bodies conf))
    ∙ ((λ i. section_passed Events Entities type_line refl 1 (entity_bodies conf) i
    ++ section_passed Events Relations type_line refl (relations_head conf) (relation_bodies conf) i
    ++ (section_read Events Events type_line refl (events_head conf) (event_bodies conf)
    ∙ rows_read type_line (type_body conf) (written_type conf) (event_rows conf)
    (each_less (IsTypeRow conf) (λ placed. (number : ℕ) → type_line number (chars (type_body conf placed)) ≡ written_type conf number placed) (λ placed h. h.read) (event_rows conf) (events_read conf spelled))
    (events_head conf + 1)) i
    ++ section_passed Events Attributes type_line refl (attributes_head conf) (attribute_bodies conf) i)
    ∙ append-nil (numbered (written_type conf) (events_head conf + 1) (event_rows conf)))

attributes_declared : (conf : Configuration) → IsSpelled conf → section_lines Attributes named_line (written_lines conf) ≡ numbered (written_attribute conf) (attributes_head conf + 1) conf.attributes
attributes_declared conf spelled =
    four_sections Attributes named_line (written_section Entities 1 (entity_bodies conf)) (written_section Relations (relations_head conf) (relation_bodies conf))
    (written_section Events (events_head conf) (event_bodies conf)) (written_section Attributes (attributes_head conf) (attribute_bodies conf))
    ∙ (λ i. section_passed Attributes Entities named_line refl 1 (entity_bodies conf) i
    ++ section_passed Attributes Relations named_line refl (relations_head conf) (relation_bodies conf) i
    ++ section_passed Attributes Events named_line refl (events_head conf) (event_bodies conf) i
    ++ (section_read Attributes Attributes named_line refl (attributes_head conf) (attribute_bodies conf)
    ∙ rows_read named_line (attribute_body conf) (written_attribute conf) conf.attributes
    (each_less (IsAttributeRow conf) (λ attribute. (number : ℕ) → named_line number (chars (attribute_body conf attribute)) ≡ written_attribute conf number attribute) (λ attribute h. h.read) conf.attributes
    (attributes_read conf spelled)) (attributes_head conf + 1)) i)

-- a line of `[relations]`, without white space at its start
abbrev visible_line : ℕ → List ℕ → NamedLine
visible_line number cs = named_line number (skip_leading_whitespace cs)

visible_read : (text name : List ℕ) (pieces : List Piece) → IsNamedText text name pieces → (number : ℕ) → visible_line number (chars text) ≡ record { number = number; name = name; pieces = pieces }
visible_read text name pieces h number = ap (named_line number) (skip_none (chars text) h.opens) ∙ h.read number

-- the lines of relation types and then the overlap lines
abbrev declared_relations : Configuration → List NamedLine
declared_relations conf = numbered (written_relation conf) (relations_head conf + 1) (relation_rows conf)

abbrev declared_overlaps : Configuration → List NamedLine
declared_overlaps conf = numbered (written_overlap conf) (relations_head conf + 1 + length (relation_rows conf)) conf.overlaps

relation_lines_read : (conf : Configuration) → IsSpelled conf
    → numbered (λ n text. visible_line n (chars text)) (relations_head conf + 1) (relation_bodies conf) ≡ declared_relations conf ++ declared_overlaps conf
relation_lines_read conf spelled =
    let write = λ (n : ℕ) (text : List ℕ). visible_line n (chars text) in
    numbered-append write (relations_head conf + 1) (map (relation_body conf) (relation_rows conf)) (map (overlap_body conf) conf.overlaps)
    ∙ (ap (λ n. numbered write (relations_head conf + 1) (map (relation_body conf) (relation_rows conf)) ++ numbered write (relations_head conf + 1 + n) (map (overlap_body conf) conf.overlaps))
    (length-map (relation_rows conf) (relation_body conf))
    ∙ ap₂ (λ a b. a ++ b)
    (rows_read visible_line (relation_body conf) (written_relation conf) (relation_rows conf)
    (each_less (IsRelationRow conf) (λ row. (number : ℕ) → visible_line number (chars (relation_body conf row)) ≡ written_relation conf number row)
    (λ row h. visible_read (relation_body conf row) row.0.name (relation_pieces conf row) h.text) (relation_rows conf) (relations_read conf spelled)) (relations_head conf + 1))
    (rows_read visible_line (overlap_body conf) (written_overlap conf) conf.overlaps
    (each_less (IsOverlapRow conf) (λ line. (number : ℕ) → visible_line number (chars (overlap_body conf line)) ≡ written_overlap conf number line)
    (λ line h. visible_read (overlap_body conf line) (codes "<OVERLAP>") (overlap_pieces conf line) h) conf.overlaps (overlaps_read conf spelled)) (relations_head conf + 1 + length (relation_rows conf))))

of_relations : (conf : Configuration) → IsSpelled conf → section_lines Relations visible_line (written_lines conf) ≡ declared_relations conf ++ declared_overlaps conf
of_relations conf spelled =
    four_sections Relations visible_line (written_section Entities 1 (entity_bodies conf)) (written_section Relations (relations_head conf) (relation_bodies conf))
    (written_section Events (events_head conf) (event_bodies conf)) (written_section Attributes (attributes_head conf) (attribute_bodies conf))
    ∙ ((λ i. section_passed Relations Entities visible_line refl 1 (entity_bodies conf) i
    ++ (section_read Relations Relations visible_line refl (relations_head conf) (relation_bodies conf) ∙ relation_lines_read conf spelled) i
    ++ section_passed Relations Events visible_line refl (events_head conf) (event_bodies conf) i
    ++ section_passed Relations Attributes visible_line refl (attributes_head conf) (attribute_bodies conf) i)
    ∙ (append-nil (declared_relations conf ++ declared_overlaps conf ++ []) ∙ append-nil (declared_relations conf ++ declared_overlaps conf)))

-- the overlap lines, apart
kept_all : {X : Type 0} (test : X → Bool) (xs : List X) → AllByRecursion (λ x. test x ≡ true) xs → filter test xs ≡ xs
kept_all test [] h = refl
kept_all test (x ∷ xs) h = cond-true (test x) (x ∷ filter test xs) (filter test xs) h.0 ∙ ap (λ rest. x ∷ rest) (kept_all test xs h.1)

kept_none : {X : Type 0} (test : X → Bool) (xs : List X) → AllByRecursion (λ x. test x ≡ false) xs → filter test xs ≡ []
kept_none test [] h = refl
kept_none test (x ∷ xs) h = cond-false (test x) (x ∷ filter test xs) (filter test xs) h.0 ∙ kept_none test xs h.1

declared_overlap : is_no_declared (codes "<OVERLAP>") ≡ true
unfolding name_fault chars
declared_overlap = refl

no_overlap : (name : List ℕ) → IsDeclaredWord name → bytes_eq name (codes "<OVERLAP>") ≡ false
no_overlap name h =
    false_from_ne_true (bytes_eq name (codes "<OVERLAP>")) (λ e.
    true≢false (sym declared_overlap ∙ (sym (ap is_no_declared ((bytes_eq-Decides name (codes "<OVERLAP>")).0 e)) ∙ h.faultless)))

relations_apart : (conf : Configuration) (number : ℕ) (rows : List (RelationType × Arguments)) → AllByRecursion (IsRelationRow conf) rows
    → AllByRecursion (λ line. is_overlap line ≡ false) (numbered (written_relation conf) number rows)
relations_apart conf number [] h = tt
relations_apart conf number (row ∷ rows) h = (no_overlap row.0.name h.0.word, relations_apart conf (number + 1) rows h.1)

overlaps_apart : (conf : Configuration) (number : ℕ) (rows : List Overlap) → AllByRecursion (λ line. is_overlap line ≡ true) (numbered (written_overlap conf) number rows)
overlaps_apart conf number [] = tt
overlaps_apart conf number (row ∷ rows) = (refl, overlaps_apart conf (number + 1) rows)

relations_declared : (conf : Configuration) → IsSpelled conf → filter (λ line. not (is_overlap line)) (section_lines Relations visible_line (written_lines conf)) ≡ declared_relations conf
relations_declared conf spelled =
    let apart = relations_apart conf (relations_head conf + 1) (relation_rows conf) (relations_read conf spelled) in
    let overlaps = overlaps_apart conf (relations_head conf + 1 + length (relation_rows conf)) conf.overlaps in
    ap (filter (λ line. not (is_overlap line))) (of_relations conf spelled)
    ∙ (filter-append (λ line. not (is_overlap line)) (declared_relations conf) (declared_overlaps conf)
    ∙ (ap₂ (λ a b. a ++ b)
    (kept_all (λ line. not (is_overlap line)) (declared_relations conf)
    (each_less (λ line. is_overlap line ≡ false) (λ line. not (is_overlap line) ≡ true) (λ line h. not_from_false (is_overlap line) h) (declared_relations conf) apart))
    (kept_none (λ line. not (is_overlap line)) (declared_overlaps conf)
    (each_less (λ line. is_overlap line ≡ true) (λ line. not (is_overlap line) ≡ false) (λ line h. not_from_true (is_overlap line) h) (declared_overlaps conf) overlaps))
    ∙ append-nil (declared_relations conf)))

overlaps_declared : (conf : Configuration) → IsSpelled conf → filter is_overlap (section_lines Relations visible_line (written_lines conf)) ≡ declared_overlaps conf
overlaps_declared conf spelled =
    ap (filter is_overlap) (of_relations conf spelled)
    ∙ (filter-append is_overlap (declared_relations conf) (declared_overlaps conf)
    ∙ ap₂ (λ a b. a ++ b) (kept_none is_overlap (declared_relations conf) (relations_apart conf (relations_head conf + 1) (relation_rows conf) (relations_read conf spelled)))
    (kept_all is_overlap (declared_overlaps conf) (overlaps_apart conf (relations_head conf + 1 + length (relation_rows conf)) conf.overlaps)))

macros_declared : (conf : Configuration) → macros_from [] (written_lines conf) ≡ []
macros_declared conf =
    let first = written_section Entities 1 (entity_bodies conf) in
    let second = written_section Relations (relations_head conf) (relation_bodies conf) in
    let third = written_section Events (events_head conf) (event_bodies conf) in
    let fourth = written_section Attributes (attributes_head conf) (attribute_bodies conf) in
    ap (macros_from []) (regrouped first second third fourth)
    ∙ (section_macros Entities 1 (entity_bodies conf) (second ++ (third ++ (fourth ++ [])))
    ∙ (section_macros Relations (relations_head conf) (relation_bodies conf) (third ++ (fourth ++ []))
    ∙ (section_macros Events (events_head conf) (event_bodies conf) (fourth ++ []) ∙ section_macros Attributes (attributes_head conf) (attribute_bodies conf) [])))

-- the lines that are written declare what is written
pub lines_declare : (conf : Configuration) → IsSpelled conf → file_of_lines (written_lines conf) ≡ written_file conf
lines_declare conf spelled = λ i. record {
  lines = written_lines conf;
  entities = entities_declared conf spelled i;
  events = events_declared conf spelled i;
  relations = relations_declared conf spelled i;
  overlaps = overlaps_declared conf spelled i;
  attributes = attributes_declared conf spelled i;
  macros = macros_declared conf i;
}

-- the canonical text spells the file that is written
pub written_reads : (conf : Configuration) → IsSpelled conf → file_of (conf_text conf) ≡ written_file conf
unfolding file_of
written_reads conf spelled = ap file_of_lines (file_lines_read conf spelled) ∙ lines_declare conf spelled
