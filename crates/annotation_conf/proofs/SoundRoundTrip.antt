-- The canonical text of a sound configuration is read back as it.
use Rattle.std.proofs.Common.{◌≡◌, ℕ, ◌+◌, ◌&&◌, Bool, true, false, cond, List, [], ◌∷◌, ◌++◌, length, find, Option, Some, None, Ok, nat_lt, option_map, refl, ◌∙◌, ap, ap₂, arith}
use Rattle.std.specs.Option.{option_map_or, option_or}
use Rattle.std.specs.List.{AllByRecursion as Each, list_any}
use Rattle.std.specs.Str.Lossy.{utf8_valid_len}
use Rattle.std.proofs.lemmas.Bool.{le-ltb, and_left, and_right, cond-false}
use Rattle.conf_model.specs.declared.conf_fault.ConfWhat.{ConfWhat}
use Rattle.conf_model.specs.declared.conf_fault.ConfWhat.TheVariants.{SectionTwice}
use Rattle.conf_model.specs.ConfLines.{Section, Entities, Relations, Events, Attributes, Line}
use Rattle.conf_model.specs.ConfNames.{TypeLine, NamedLine, File, is_section, file_of}
use Rattle.conf_model.specs.ConfFaults.{pairs_of, is_shapeless, type_fault, attribute_fault, content_fault, fault_at, is_header, opened_before}
use Rattle.conf_model.specs.ConfOf.{Fault, first_fault, missing_fault, answer_of, conf_of}
use Rattle.conf_model.specs.ConfText.{conf_text}
use Rattle.conf_model.specs.Configurations.{Configuration}
use Rattle.conf_model.specs.Sound.{IsSound}
use Rattle.annotation_conf.proofs.SoundLists.{Each-append, each_always, none_passes}
use Rattle.annotation_conf.proofs.SoundAgain.{configuration_again}
use Rattle.annotation_conf.proofs.SoundLaw.{sound}
use Rattle.annotation_conf.proofs.SoundNumbered.{Each-numbered}
use Rattle.annotation_conf.proofs.SoundOthersClean.{mixed_fault, relations_clean, overlaps_clean, attributes_clean}
use Rattle.annotation_conf.proofs.SoundTypesClean.{entities_clean, events_clean}
use Rattle.annotation_conf.proofs.Written.{written_file, written_section, content_line, entity_bodies, relation_bodies, event_bodies, attribute_bodies, relations_head, events_head, attributes_head}
use Rattle.annotation_conf.proofs.WrittenReads.{written_reads, written_valid}
use Rattle.annotation_conf.proofs.WrittenSound.{sound_spelled}

-- where no line of a list has a fault, the one that is found has none
found_none : {X : Type 0} (p : X → Bool) (fault : X → Option ConfWhat) (xs : List X) → Each (λ x. fault x ≡ None) xs → option_map_or fault (find p xs) None ≡ None
found_none p fault [] a = refl
found_none p fault (x ∷ xs) a =
    elim (p x) as (λ b. option_map_or fault (cond b (Some x) (find p xs)) None ≡ None) [ true ↦ a.0 | false ↦ found_none p fault xs a.1 ]

no_content_fault : (conf : Configuration) → IsSound conf → (number : ℕ) (section : Section) → content_fault (written_file conf) number section ≡ None
no_content_fault conf s number Entities = found_none _ (type_fault (written_file conf) (written_file conf).entities [] false) (written_file conf).entities (entities_clean conf s)
no_content_fault conf s number Relations =
    found_none _ (mixed_fault conf) ((written_file conf).relations ++ (written_file conf).overlaps)
    (Each-append (λ (line : NamedLine). mixed_fault conf line ≡ None) (written_file conf).relations (written_file conf).overlaps (relations_clean conf s) (overlaps_clean conf s))
no_content_fault conf s number Events =
    found_none _ (λ (line : TypeLine). type_fault (written_file conf) (written_file conf).events (pairs_of line.pieces) (list_any is_shapeless line.pieces) line) (written_file conf).events (events_clean conf s)
no_content_fault conf s number Attributes = found_none _ (attribute_fault (written_file conf)) (written_file conf).attributes (attributes_clean conf s)

-- no section line of a section stands before its own
no_header : (section here : Section) (number other : ℕ) (texts : List (List ℕ)) → (nat_lt other number && is_section section here) ≡ false
    → Each (λ (line : Line). (nat_lt line.number number && is_header section line.kind) ≡ false) (written_section here other texts)
no_header section here number other texts e = (
  e,
  Each-numbered (content_line here) (λ (line : Line). (nat_lt line.number number && is_header section line.kind) ≡ false) (other + 1) texts
      (each_always (λ (text : List ℕ). (k : ℕ) → (nat_lt k number && false) ≡ false) (λ text k. and_right (nat_lt k number) false refl) texts),
)

no_earlier : (conf : Configuration) (section : Section) (number : ℕ) → (nat_lt 1 number && is_section section Entities) ≡ false → (nat_lt (relations_head conf) number && is_section section Relations) ≡ false
    → (nat_lt (events_head conf) number && is_section section Events) ≡ false → (nat_lt (attributes_head conf) number && is_section section Attributes) ≡ false
    → opened_before (written_file conf) number section ≡ false
no_earlier conf section number a b c d =
    let p : Line → Bool = λ line. nat_lt line.number number && is_header section line.kind in
    none_passes (λ (line : Line). nat_lt line.number number && is_header section line.kind) (written_file conf).lines
    (Each-append (λ line. p line ≡ false) (written_section Entities 1 (entity_bodies conf) ++ written_section Relations (relations_head conf) (relation_bodies conf) ++ written_section Events (events_head conf) (event_bodies conf)) (written_section Attributes (attributes_head conf) (attribute_bodies conf))
    (Each-append (λ line. p line ≡ false) (written_section Entities 1 (entity_bodies conf) ++ written_section Relations (relations_head conf) (relation_bodies conf)) (written_section Events (events_head conf) (event_bodies conf))
    (Each-append (λ line. p line ≡ false) (written_section Entities 1 (entity_bodies conf)) (written_section Relations (relations_head conf) (relation_bodies conf))
    (no_header section Entities number 1 (entity_bodies conf) a) (no_header section Relations number (relations_head conf) (relation_bodies conf) b))
    (no_header section Events number (events_head conf) (event_bodies conf) c)) (no_header section Attributes number (attributes_head conf) (attribute_bodies conf) d))

other : (b : Bool) → (b && false) ≡ false
other b = and_right b false refl

itself : (n : ℕ) → (nat_lt n n && true) ≡ false
itself n = and_left (nat_lt n n) true (le-ltb n n (omega arith))

-- the lines of a section have no fault
section_clean : (conf : Configuration) → IsSound conf → (section : Section) (number : ℕ) (texts : List (List ℕ)) → opened_before (written_file conf) number section ≡ false
    → Each (λ (line : Line). fault_at (written_file conf) line.number line.place line.kind ≡ None) (written_section section number texts)
section_clean conf s section number texts e = (
  cond-false (opened_before (written_file conf) number section) (Some SectionTwice) None e,
  Each-numbered (content_line section) (λ (line : Line). fault_at (written_file conf) line.number line.place line.kind ≡ None) (number + 1) texts
      (each_always (λ (text : List ℕ). (k : ℕ) → content_fault (written_file conf) k section ≡ None) (λ text k. no_content_fault conf s k section) texts),
)

lines_clean : (conf : Configuration) → IsSound conf → Each (λ (line : Line). fault_at (written_file conf) line.number line.place line.kind ≡ None) (written_file conf).lines
lines_clean conf s =
    let P : Line → Type 0 = λ line. fault_at (written_file conf) line.number line.place line.kind ≡ None in
    Each-append P (written_section Entities 1 (entity_bodies conf) ++ written_section Relations (relations_head conf) (relation_bodies conf) ++ written_section Events (events_head conf) (event_bodies conf)) (written_section Attributes (attributes_head conf) (attribute_bodies conf))
    (Each-append P (written_section Entities 1 (entity_bodies conf) ++ written_section Relations (relations_head conf) (relation_bodies conf)) (written_section Events (events_head conf) (event_bodies conf))
    (Each-append P (written_section Entities 1 (entity_bodies conf)) (written_section Relations (relations_head conf) (relation_bodies conf))
    (section_clean conf s Entities 1 (entity_bodies conf) (no_earlier conf Entities 1 (itself 1) (other (nat_lt (relations_head conf) 1)) (other (nat_lt (events_head conf) 1)) (other (nat_lt (attributes_head conf) 1))))
    (section_clean conf s Relations (relations_head conf) (relation_bodies conf)
    (no_earlier conf Relations (relations_head conf) (other (nat_lt 1 (relations_head conf))) (itself (relations_head conf)) (other (nat_lt (events_head conf) (relations_head conf))) (other (nat_lt (attributes_head conf) (relations_head conf))))))
    (section_clean conf s Events (events_head conf) (event_bodies conf)
    (no_earlier conf Events (events_head conf) (other (nat_lt 1 (events_head conf))) (other (nat_lt (relations_head conf) (events_head conf))) (itself (events_head conf)) (other (nat_lt (attributes_head conf) (events_head conf))))))
    (section_clean conf s Attributes (attributes_head conf) (attribute_bodies conf)
    (no_earlier conf Attributes (attributes_head conf) (other (nat_lt 1 (attributes_head conf))) (other (nat_lt (relations_head conf) (attributes_head conf))) (other (nat_lt (events_head conf) (attributes_head conf))) (itself (attributes_head conf))))

none_first : (file : File) (lines : List Line) → Each (λ (line : Line). fault_at file line.number line.place line.kind ≡ None) lines → first_fault file lines ≡ None
none_first file [] a = refl
none_first file (line ∷ lines) a =
    ap (λ o. option_or (option_map (λ (what : ConfWhat). record { line = line.number; what = what }) o) (first_fault file lines)) a.0 ∙ none_first file lines a.1

pub written_faultless : (conf : Configuration) → IsSound conf → first_fault (written_file conf) (written_file conf).lines ≡ None
written_faultless conf s = none_first (written_file conf) (written_file conf).lines (lines_clean conf s)

-- the section of entity types stands first
pub written_whole : (conf : Configuration) → missing_fault (written_file conf) ≡ None
written_whole conf = refl

pub text_read_back : (conf : Configuration) → IsSound conf → conf_of (conf_text conf) ≡ Ok conf
unfolding conf_of
text_read_back conf s =
    let spelled = sound_spelled conf s in
    let size : utf8_valid_len (conf_text conf) ≡ length (conf_text conf) = written_valid conf spelled in
    cond-false (nat_lt (utf8_valid_len (conf_text conf)) (length (conf_text conf))) _
    (answer_of (file_of (conf_text conf)) (option_or (first_fault (file_of (conf_text conf)) (file_of (conf_text conf)).lines) (missing_fault (file_of (conf_text conf)))))
    (le-ltb (utf8_valid_len (conf_text conf)) (length (conf_text conf)) (omega arith))
    ∙ ap (λ (file : File). answer_of file (option_or (first_fault file file.lines) (missing_fault file))) (written_reads conf spelled)
    ∙ ap₂ (λ (o m : Option Fault). answer_of (written_file conf) (option_or o m)) (written_faultless conf s) (written_whole conf)
    ∙ ap Ok (configuration_again conf s)

-- so the text of a configuration that was read is read back as it
pub read_back : (bytes : List ℕ) (conf : Configuration) → conf_of bytes ≡ Ok conf → conf_of (conf_text conf) ≡ Ok conf
read_back bytes conf e = text_read_back conf (sound bytes conf e)
