-- The first fault of a file over its lines is the soonest of the first faults of its lists; and its lists are in order.
use Rattle.std.proofs.Common.{◌≡◌, ℕ, ◌+◌, ◌<◌, ◌≤◌, ◌==◌, Bool, true, false, not, cond, List, [], ◌∷◌, ◌++◌, Option, Some, None, zero, suc, option_map, option_and_then, length, take, get_or, find, refl, sym, ◌∙◌, ap, subst, arith}
use Rattle.std.specs.Option.{option_or, option_map_or}
use Rattle.std.specs.Str.{skip_leading_whitespace}
use Rattle.std.specs.Str.Lines.{lines}
use Rattle.std.proofs.lemmas.List.{append_assoc, append-nil}
use Rattle.std.proofs.lemmas.Option.{same_Some}
use Rattle.std.proofs.lemmas.List.Folds.{find-append}
use Rattle.conf_model.specs.declared.conf_fault.ConfWhat.{ConfWhat}
use Rattle.conf_model.specs.ConfLines.{Section, Entities, Relations, Events, Attributes, Place, Before, Nowhere, Within, Kind, Skipped, Header, Macro, Content, Line, file_lines}
use Rattle.conf_model.specs.ConfPairs.{alternatives_of}
use Rattle.conf_model.specs.ConfNames.{TypeLine, NamedLine, MacroLine, File, type_line, named_line, is_overlap, content_of, macro_at, macros_from, all_held, file_of_lines, file_of}
use Rattle.conf_model.specs.ConfFaults.{type_fault, relation_fault, overlap_fault, attribute_fault, macro_fault, fault_at}
use Rattle.conf_model.specs.ConfOf.{Fault, first_fault}
use Rattle.annotation_conf.specs.FirstFaults.{first_among, sooner, soonest_fault, bare_at, bare_fault, event_fault, macro_line_fault, IsRising, IsInOrder}
use Rattle.annotation_conf.specs.KnownFiles.{HoldInTurn}
use Rattle.annotation_conf.proofs.FaultLines.{IsFrom, IsLine, lines_are_from, fault_by, two_parts, same_faults, first_fault_by, part_fault, find_part, part_rises, where_passes, filter_part}

abbrev entity_part : Line → Option TypeLine
entity_part line = content_of Entities type_line line.number line.place line.kind

abbrev event_part : Line → Option TypeLine
event_part line = content_of Events type_line line.number line.place line.kind

abbrev relations_part : Line → Option NamedLine
relations_part line = content_of Relations (λ number cs. named_line number (skip_leading_whitespace cs)) line.number line.place line.kind

abbrev relation_part : Line → Option NamedLine
relation_part line = where_passes (λ l. not (is_overlap l)) (relations_part line)

abbrev overlap_part : Line → Option NamedLine
overlap_part line = where_passes is_overlap (relations_part line)

abbrev attribute_part : Line → Option NamedLine
attribute_part line = content_of Attributes named_line line.number line.place line.kind

number_step : {X : Type 0} (n_of : X → ℕ) (y : X) (number : ℕ) → n_of y ≡ number → (b : Bool) (x : X) → cond b (Some y) None ≡ Some x → n_of x ≡ number
number_step n_of y number numbered true x e = sym (ap n_of (same_Some y x e)) ∙ numbered
number_step n_of y number numbered false x e = cc

passes_step : (test : NamedLine → Bool) (o : Option NamedLine) (number : ℕ) → ((y : NamedLine) → o ≡ Some y → y.number ≡ number)
    → (x : NamedLine) → where_passes test o ≡ Some x → x.number ≡ number
passes_step test None number numbered x e = cc
passes_step test (Some y) number numbered x e = number_step (λ (l : NamedLine). l.number) y number (numbered y refl) (test y) x e

-- what comes from a line has its number
content_number : {X : Type 0} (n_of : X → ℕ) (section : Section) (read : ℕ → List ℕ → X) → ((number : ℕ) (cs : List ℕ) → n_of (read number cs) ≡ number)
    → (number : ℕ) (place : Place) (kind : Kind) (x : X) → content_of section read number place kind ≡ Some x → n_of x ≡ number
content_number n_of section read numbered number Before Skipped x e = cc
content_number n_of section read numbered number Before (Header o) x e = cc
content_number n_of section read numbered number Before (Macro name cs) x e = cc
content_number n_of section read numbered number Before (Content cs) x e = cc
content_number n_of section read numbered number Nowhere Skipped x e = cc
content_number n_of section read numbered number Nowhere (Header o) x e = cc
content_number n_of section read numbered number Nowhere (Macro name cs) x e = cc
content_number n_of section read numbered number Nowhere (Content cs) x e = cc
content_number n_of section read numbered number (Within here) Skipped x e = cc
content_number n_of section read numbered number (Within here) (Header o) x e = cc
content_number n_of section read numbered number (Within here) (Macro name cs) x e = cc
content_number n_of section read numbered number (Within here) (Content cs) x e = number_step n_of (read number cs) number (numbered number cs) _ x e

entity_number : (line : Line) (x : TypeLine) → entity_part line ≡ Some x → x.number ≡ line.number
entity_number line x e = content_number (λ (l : TypeLine). l.number) Entities type_line (λ number cs. refl) line.number line.place line.kind x e

event_number : (line : Line) (x : TypeLine) → event_part line ≡ Some x → x.number ≡ line.number
event_number line x e = content_number (λ (l : TypeLine). l.number) Events type_line (λ number cs. refl) line.number line.place line.kind x e

relations_number : (line : Line) (x : NamedLine) → relations_part line ≡ Some x → x.number ≡ line.number
relations_number line x e = content_number (λ (l : NamedLine). l.number) Relations (λ number cs. named_line number (skip_leading_whitespace cs)) (λ number cs. refl) line.number line.place line.kind x e

relation_number : (line : Line) (x : NamedLine) → relation_part line ≡ Some x → x.number ≡ line.number
relation_number line x e = passes_step (λ l. not (is_overlap l)) (relations_part line) line.number (relations_number line) x e

overlap_number : (line : Line) (x : NamedLine) → overlap_part line ≡ Some x → x.number ≡ line.number
overlap_number line x e = passes_step is_overlap (relations_part line) line.number (relations_number line) x e

attribute_number : (line : Line) (x : NamedLine) → attribute_part line ≡ Some x → x.number ≡ line.number
attribute_number line x e = content_number (λ (l : NamedLine). l.number) Attributes named_line (λ number cs. refl) line.number line.place line.kind x e

-- the fault of the macro of a line
macro_fault_at : File → ℕ → Place → Kind → Option ConfWhat
macro_fault_at file number place Skipped = None
macro_fault_at file number place (Header section) = None
macro_fault_at file number place (Macro name cs) = macro_fault file number name (alternatives_of cs)
macro_fault_at file number place (Content cs) = None

-- the parts of the fault of a line
abbrev of_macros : File → Line → Option ConfWhat
of_macros file line = macro_fault_at file line.number line.place line.kind

abbrev of_entities : File → Line → Option ConfWhat
of_entities file line = option_and_then (type_fault file file.entities [] false) (entity_part line)

abbrev of_events : File → Line → Option ConfWhat
of_events file line = option_and_then (event_fault file) (event_part line)

abbrev of_relations : File → Line → Option ConfWhat
of_relations file line = option_and_then (relation_fault file) (relation_part line)

abbrev of_overlaps : File → Line → Option ConfWhat
of_overlaps file line = option_and_then (overlap_fault file) (overlap_part line)

abbrev of_attributes : File → Line → Option ConfWhat
of_attributes file line = option_and_then (attribute_fault file) (attribute_part line)

abbrev of_parts : File → Line → Option ConfWhat
of_parts file line =
    option_or (bare_fault file line) (option_or (of_macros file line) (option_or (of_entities file line) (option_or (of_events file line)
    (option_or (of_relations file line) (option_or (of_overlaps file line) (of_attributes file line))))))

or_none : (o : Option ConfWhat) → o ≡ option_or o None
or_none None = refl
or_none (Some w) = refl

-- what is found of a line in each section
record FindsLine (file : File) (number : ℕ) (place : Place) (kind : Kind) : Type 0 where
  entity : find (λ (l : TypeLine). l.number == number) file.entities ≡ content_of Entities type_line number place kind
  event : find (λ (l : TypeLine). l.number == number) file.events ≡ content_of Events type_line number place kind
  relation : find (λ (l : NamedLine). l.number == number) (file.relations ++ file.overlaps)
      ≡ option_or (where_passes (λ l. not (is_overlap l)) (content_of Relations (λ n cs. named_line n (skip_leading_whitespace cs)) number place kind))
      (where_passes is_overlap (content_of Relations (λ n cs. named_line n (skip_leading_whitespace cs)) number place kind))
  attribute : find (λ (l : NamedLine). l.number == number) file.attributes ≡ content_of Attributes named_line number place kind

relation_step : (file : File) (line : NamedLine) (b : Bool) → is_overlap line ≡ b
    → option_map_or (λ l. cond (is_overlap l) (overlap_fault file l) (relation_fault file l)) (option_or (cond (not b) (Some line) None) (cond b (Some line) None)) None
    ≡ option_or (option_and_then (relation_fault file) (cond (not b) (Some line) None)) (option_or (option_and_then (overlap_fault file) (cond b (Some line) None)) None)
relation_step file line true is = ap (λ b. cond b (overlap_fault file line) (relation_fault file line)) is ∙ or_none (overlap_fault file line)
relation_step file line false is = ap (λ b. cond b (overlap_fault file line) (relation_fault file line)) is ∙ or_none (relation_fault file line)

parts_at : (file : File) (number : ℕ) (place : Place) (kind : Kind) → FindsLine file number place kind
    → fault_at file number place kind ≡ of_parts file (record { number = number; place = place; kind = kind })
unfolding macro_fault_at
parts_at file number Before Skipped finds = refl
parts_at file number Nowhere Skipped finds = refl
parts_at file number (Within s) Skipped finds = refl
parts_at file number Before (Header None) finds = refl
parts_at file number Nowhere (Header None) finds = refl
parts_at file number (Within s) (Header None) finds = refl
parts_at file number Before (Header (Some t)) finds = or_none (bare_at file number Before (Header (Some t)))
parts_at file number Nowhere (Header (Some t)) finds = or_none (bare_at file number Nowhere (Header (Some t)))
parts_at file number (Within s) (Header (Some t)) finds = or_none (bare_at file number (Within s) (Header (Some t)))
parts_at file number Before (Macro name cs) finds = or_none (macro_fault file number name (alternatives_of cs))
parts_at file number Nowhere (Macro name cs) finds = or_none (macro_fault file number name (alternatives_of cs))
parts_at file number (Within s) (Macro name cs) finds = or_none (macro_fault file number name (alternatives_of cs))
parts_at file number Before (Content cs) finds = refl
parts_at file number Nowhere (Content cs) finds = refl
parts_at file number (Within Entities) (Content cs) finds =
    ap (λ o. option_map_or (type_fault file file.entities [] false) o None) finds.entity ∙ or_none (type_fault file file.entities [] false (type_line number cs))
parts_at file number (Within Events) (Content cs) finds =
    ap (λ o. option_map_or (event_fault file) o None) finds.event ∙ or_none (event_fault file (type_line number cs))
parts_at file number (Within Relations) (Content cs) finds =
    ap (λ o. option_map_or (λ l. cond (is_overlap l) (overlap_fault file l) (relation_fault file l)) o None) finds.relation
    ∙ relation_step file (named_line number (skip_leading_whitespace cs)) (is_overlap (named_line number (skip_leading_whitespace cs))) refl
parts_at file number (Within Attributes) (Content cs) finds =
    ap (λ o. option_map_or (attribute_fault file) o None) finds.attribute

-- the macros behind others
new_macros : List MacroLine → List Line → List MacroLine
new_macros before [] = []
new_macros before (line ∷ more) = macro_at before line.number line.place line.kind ++ new_macros (before ++ macro_at before line.number line.place line.kind) more

macros_are : (before : List MacroLine) (all : List Line) → macros_from before all ≡ before ++ new_macros before all
unfolding new_macros
macros_are before [] = sym (append-nil before)
macros_are before (line ∷ more) =
    macros_are (before ++ macro_at before line.number line.place line.kind) more
    ∙ append_assoc before (macro_at before line.number line.place line.kind) (new_macros (before ++ macro_at before line.number line.place line.kind) more)

macro_step : (file : File) (before : List MacroLine) (number : ℕ) (place : Place) (kind : Kind) (rest : List MacroLine) (more : Option Fault)
    → more ≡ first_among (λ (m : MacroLine). m.number) (macro_line_fault file) rest
    → option_or (option_map (λ w. record { line = number; what = w }) (macro_fault_at file number place kind)) more
    ≡ first_among (λ (m : MacroLine). m.number) (macro_line_fault file) (macro_at before number place kind ++ rest)
unfolding macro_fault_at
macro_step file before number Before Skipped rest more same = same
macro_step file before number Nowhere Skipped rest more same = same
macro_step file before number (Within s) Skipped rest more same = same
macro_step file before number Before (Header t) rest more same = same
macro_step file before number Nowhere (Header t) rest more same = same
macro_step file before number (Within s) (Header t) rest more same = same
macro_step file before number Before (Macro name cs) rest more same = ap (option_or (option_map (λ w. record { line = number; what = w }) (macro_fault file number name (alternatives_of cs)))) same
macro_step file before number Nowhere (Macro name cs) rest more same = ap (option_or (option_map (λ w. record { line = number; what = w }) (macro_fault file number name (alternatives_of cs)))) same
macro_step file before number (Within s) (Macro name cs) rest more same = ap (option_or (option_map (λ w. record { line = number; what = w }) (macro_fault file number name (alternatives_of cs)))) same
macro_step file before number Before (Content cs) rest more same = same
macro_step file before number Nowhere (Content cs) rest more same = same
macro_step file before number (Within s) (Content cs) rest more same = same

macros_fault : (file : File) (before : List MacroLine) (all : List Line) → fault_by (of_macros file) all ≡ first_among (λ (m : MacroLine). m.number) (macro_line_fault file) (new_macros before all)
unfolding new_macros
macros_fault file before [] = refl
macros_fault file before (line ∷ more) =
    macro_step file before line.number line.place line.kind (new_macros (before ++ macro_at before line.number line.place line.kind) more) (fault_by (of_macros file) more)
    (macros_fault file (before ++ macro_at before line.number line.place line.kind) more)

finds_line : (all : List Line) → IsFrom 1 all → (line : Line) → IsLine line all → FindsLine (file_of_lines all) line.number line.place line.kind
finds_line all from line is = record {
  entity = find_part entity_part (λ (l : TypeLine). l.number) 1 all line entity_number from is;
  event = find_part event_part (λ (l : TypeLine). l.number) 1 all line event_number from is;
  relation =
      find-append (λ (l : NamedLine). l.number == line.number) (file_of_lines all).relations (file_of_lines all).overlaps
      ∙ ap (λ xs. option_or (find (λ (l : NamedLine). l.number == line.number) xs) (find (λ (l : NamedLine). l.number == line.number) (file_of_lines all).overlaps)) (filter_part (λ l. not (is_overlap l)) relations_part all)
      ∙ ap (λ o. option_or o (find (λ (l : NamedLine). l.number == line.number) (file_of_lines all).overlaps)) (find_part relation_part (λ (l : NamedLine). l.number) 1 all line relation_number from is)
      ∙ ap (λ xs. option_or (relation_part line) (find (λ (l : NamedLine). l.number == line.number) xs)) (filter_part is_overlap relations_part all)
      ∙ ap (option_or (relation_part line)) (find_part overlap_part (λ (l : NamedLine). l.number) 1 all line overlap_number from is);
  attribute = find_part attribute_part (λ (l : NamedLine). l.number) 1 all line attribute_number from is;
}

parts_of_lines : (all : List Line) → IsFrom 1 all → soonest_fault (file_of_lines all) ≡ first_fault (file_of_lines all) all
unfolding soonest_fault
parts_of_lines all from =
    let file : File = file_of_lines all in
    sym (
    first_fault_by file all
    ∙ same_faults (λ line. fault_at file line.number line.place line.kind) (of_parts file) all (λ line is. parts_at file line.number line.place line.kind (finds_line all from line is))
    ∙ two_parts (bare_fault file) (λ line. option_or (of_macros file line) (option_or (of_entities file line) (option_or (of_events file line) (option_or (of_relations file line) (option_or (of_overlaps file line) (of_attributes file line)))))) 1 all from
    ∙ ap (sooner (fault_by (bare_fault file) all)) (
    two_parts (of_macros file) (λ line. option_or (of_entities file line) (option_or (of_events file line) (option_or (of_relations file line) (option_or (of_overlaps file line) (of_attributes file line))))) 1 all from
    ∙ ap (λ o. sooner o (fault_by (λ line. option_or (of_entities file line) (option_or (of_events file line) (option_or (of_relations file line) (option_or (of_overlaps file line) (of_attributes file line))))) all)) (macros_fault file [] all ∙ ap (first_among (λ (m : MacroLine). m.number) (macro_line_fault file)) (sym (macros_are [] all)))
    ∙ ap (sooner (first_among (λ (m : MacroLine). m.number) (macro_line_fault file) file.macros)) (
    two_parts (of_entities file) (λ line. option_or (of_events file line) (option_or (of_relations file line) (option_or (of_overlaps file line) (of_attributes file line)))) 1 all from
    ∙ ap (λ o. sooner o (fault_by (λ line. option_or (of_events file line) (option_or (of_relations file line) (option_or (of_overlaps file line) (of_attributes file line)))) all)) (part_fault entity_part (λ (l : TypeLine). l.number) (type_fault file file.entities [] false) all entity_number)
    ∙ ap (sooner (first_among (λ (l : TypeLine). l.number) (type_fault file file.entities [] false) file.entities)) (
    two_parts (of_events file) (λ line. option_or (of_relations file line) (option_or (of_overlaps file line) (of_attributes file line))) 1 all from
    ∙ ap (λ o. sooner o (fault_by (λ line. option_or (of_relations file line) (option_or (of_overlaps file line) (of_attributes file line))) all)) (part_fault event_part (λ (l : TypeLine). l.number) (event_fault file) all event_number)
    ∙ ap (sooner (first_among (λ (l : TypeLine). l.number) (event_fault file) file.events)) (
    two_parts (of_relations file) (λ line. option_or (of_overlaps file line) (of_attributes file line)) 1 all from
    ∙ ap (λ o. sooner o (fault_by (λ line. option_or (of_overlaps file line) (of_attributes file line)) all)) (part_fault relation_part (λ (l : NamedLine). l.number) (relation_fault file) all relation_number ∙ ap (first_among (λ (l : NamedLine). l.number) (relation_fault file)) (sym (filter_part (λ l. not (is_overlap l)) relations_part all)))
    ∙ ap (sooner (first_among (λ (l : NamedLine). l.number) (relation_fault file) file.relations)) (
    two_parts (of_overlaps file) (of_attributes file) 1 all from
    ∙ ap (λ o. sooner o (fault_by (of_attributes file) all)) (part_fault overlap_part (λ (l : NamedLine). l.number) (overlap_fault file) all overlap_number ∙ ap (first_among (λ (l : NamedLine). l.number) (overlap_fault file)) (sym (filter_part is_overlap relations_part all)))
    ∙ ap (sooner (first_among (λ (l : NamedLine). l.number) (overlap_fault file) file.overlaps)) (part_fault attribute_part (λ (l : NamedLine). l.number) (attribute_fault file) all attribute_number)))))))

pub soonest_is : (bytes : List ℕ) → soonest_fault (file_of bytes) ≡ first_fault (file_of bytes) (file_of bytes).lines
unfolding file_of
soonest_is bytes = parts_of_lines (file_lines bytes) (lines_are_from 1 Before (lines bytes))

-- the lists of a file are in order
lines_rise : (n : ℕ) (all : List Line) → IsFrom n all → IsRising (λ (l : Line). l.number) n all
lines_rise n [] from = tt
lines_rise n (line ∷ all) from =
    let P : ℕ → Type 0 = λ k. IsRising (λ (l : Line). l.number) (k + 1) all in
    (omega (arith, from.0), subst P (sym from.0) (lines_rise (n + 1) all from.1))

macro_at_rises : (before : List MacroLine) (number : ℕ) (place : Place) (kind : Kind) (least : ℕ) (rest : List MacroLine) → least ≤ number
    → ((k : ℕ) → k ≤ number + 1 → IsRising (λ (m : MacroLine). m.number) k rest) → IsRising (λ (m : MacroLine). m.number) least (macro_at before number place kind ++ rest)
macro_at_rises before number Before Skipped least rest le more = more least (omega arith)
macro_at_rises before number Nowhere Skipped least rest le more = more least (omega arith)
macro_at_rises before number (Within s) Skipped least rest le more = more least (omega arith)
macro_at_rises before number Before (Header t) least rest le more = more least (omega arith)
macro_at_rises before number Nowhere (Header t) least rest le more = more least (omega arith)
macro_at_rises before number (Within s) (Header t) least rest le more = more least (omega arith)
macro_at_rises before number Before (Macro name cs) least rest le more = (le, more (number + 1) (omega arith))
macro_at_rises before number Nowhere (Macro name cs) least rest le more = (le, more (number + 1) (omega arith))
macro_at_rises before number (Within s) (Macro name cs) least rest le more = (le, more (number + 1) (omega arith))
macro_at_rises before number Before (Content cs) least rest le more = more least (omega arith)
macro_at_rises before number Nowhere (Content cs) least rest le more = more least (omega arith)
macro_at_rises before number (Within s) (Content cs) least rest le more = more least (omega arith)

macros_rise : (before : List MacroLine) (n least : ℕ) (all : List Line) → IsFrom n all → least ≤ n → IsRising (λ (m : MacroLine). m.number) least (new_macros before all)
unfolding new_macros
macros_rise before n least [] from le = tt
macros_rise before n least (line ∷ all) from le =
    macro_at_rises before line.number line.place line.kind least (new_macros (before ++ macro_at before line.number line.place line.kind) all) (omega (arith, from.0))
    (λ k h. macros_rise (before ++ macro_at before line.number line.place line.kind) (n + 1) k all from.1 (omega (arith, from.0)))

in_order_of_lines : (all : List Line) → IsFrom 1 all → IsInOrder (file_of_lines all)
in_order_of_lines all from =
    let relations : List NamedLine → Type 0 = λ xs. IsRising (λ (l : NamedLine). l.number) 1 xs in
    let macros : List MacroLine → Type 0 = λ xs. IsRising (λ (m : MacroLine). m.number) 1 xs in
    record {
      lines = lines_rise 1 all from;
      entities = part_rises entity_part (λ (l : TypeLine). l.number) 1 1 all entity_number from (omega arith);
      events = part_rises event_part (λ (l : TypeLine). l.number) 1 1 all event_number from (omega arith);
      relations = subst relations (sym (filter_part (λ l. not (is_overlap l)) relations_part all)) (part_rises relation_part (λ (l : NamedLine). l.number) 1 1 all relation_number from (omega arith));
      overlaps = subst relations (sym (filter_part is_overlap relations_part all)) (part_rises overlap_part (λ (l : NamedLine). l.number) 1 1 all overlap_number from (omega arith));
      attributes = part_rises attribute_part (λ (l : NamedLine). l.number) 1 1 all attribute_number from (omega arith);
      macros = subst macros (sym (macros_are [] all)) (macros_rise [] 1 1 all from (omega arith));
    }

pub in_order : (bytes : List ℕ) → IsInOrder (file_of bytes)
unfolding file_of
in_order bytes = in_order_of_lines (file_lines bytes) (lines_are_from 1 Before (lines bytes))

-- each macro holds what its alternatives hold behind the macros before it
HoldsFrom : List MacroLine → List MacroLine → Type 0
HoldsFrom before [] = Unit {0}
HoldsFrom before (macro ∷ more) = (macro.holding ≡ all_held before macro.alternatives) × HoldsFrom (before ++ macro ∷ []) more

holds_one : (before : List MacroLine) (number : ℕ) (place : Place) (kind : Kind) (rest : List MacroLine) → HoldsFrom (before ++ macro_at before number place kind) rest
    → HoldsFrom before (macro_at before number place kind ++ rest)
unfolding HoldsFrom
holds_one before number Before Skipped rest more = subst (λ xs. HoldsFrom xs rest) (append-nil before) more
holds_one before number Nowhere Skipped rest more = subst (λ xs. HoldsFrom xs rest) (append-nil before) more
holds_one before number (Within s) Skipped rest more = subst (λ xs. HoldsFrom xs rest) (append-nil before) more
holds_one before number Before (Header t) rest more = subst (λ xs. HoldsFrom xs rest) (append-nil before) more
holds_one before number Nowhere (Header t) rest more = subst (λ xs. HoldsFrom xs rest) (append-nil before) more
holds_one before number (Within s) (Header t) rest more = subst (λ xs. HoldsFrom xs rest) (append-nil before) more
holds_one before number Before (Macro name cs) rest more = (refl, more)
holds_one before number Nowhere (Macro name cs) rest more = (refl, more)
holds_one before number (Within s) (Macro name cs) rest more = (refl, more)
holds_one before number Before (Content cs) rest more = subst (λ xs. HoldsFrom xs rest) (append-nil before) more
holds_one before number Nowhere (Content cs) rest more = subst (λ xs. HoldsFrom xs rest) (append-nil before) more
holds_one before number (Within s) (Content cs) rest more = subst (λ xs. HoldsFrom xs rest) (append-nil before) more

holds_all : (before : List MacroLine) (all : List Line) → HoldsFrom before (new_macros before all)
unfolding new_macros HoldsFrom
holds_all before [] = tt
holds_all before (line ∷ all) =
    holds_one before line.number line.place line.kind (new_macros (before ++ macro_at before line.number line.place line.kind) all)
    (holds_all (before ++ macro_at before line.number line.place line.kind) all)

holds_at : (before macros : List MacroLine) (i : ℕ) (d : MacroLine) → HoldsFrom before macros → i < length macros
    → (get_or macros i d).holding ≡ all_held (before ++ take i macros) (get_or macros i d).alternatives
unfolding HoldsFrom
holds_at before [] i d holds within = absurd (omega arith)
holds_at before (macro ∷ more) zero d holds within = holds.0 ∙ ap (λ xs. all_held xs macro.alternatives) (sym (append-nil before))
holds_at before (macro ∷ more) (suc i) d holds within =
    holds_at (before ++ macro ∷ []) more i d holds.1 (omega arith) ∙ ap (λ xs. all_held xs (get_or more i d).alternatives) (append_assoc before (macro ∷ []) (take i more))

hold_of_lines : (all : List Line) → HoldInTurn (file_of_lines all).macros
hold_of_lines all i d within =
    let P : List MacroLine → Type 0 = λ xs. HoldsFrom [] xs in
    holds_at [] (macros_from [] all) i d (subst P (sym (macros_are [] all)) (holds_all [] all)) within

pub hold_in_turn : (bytes : List ℕ) → HoldInTurn (file_of bytes).macros
unfolding file_of
hold_in_turn bytes = hold_of_lines (file_lines bytes)
