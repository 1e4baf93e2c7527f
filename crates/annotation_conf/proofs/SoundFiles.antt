-- What the entries of a file without fault keep.
use Rattle.std.proofs.Common.{◌≡◌, ℕ, ◌+◌, ◌<◌, ◌≤◌, ◌==◌, Bool, true, false, not, cond, List, [], ◌∷◌, ◌++◌, Option, Some, None, filter, find, refl, sym, ◌∙◌, ap, arith}
use Rattle.std.specs.List.{AllByRecursion as Each, list_any, cons_option}
use Rattle.std.specs.Str.{skip_leading_whitespace}
use Rattle.std.proofs.lemmas.Bool.{cond-true, cond-false, not-true}
use Rattle.conf_model.specs.ConfLines.{Section, Entities, Relations, Events, Attributes, Within, Content, Line}
use Rattle.conf_model.specs.ConfNames.{TypeLine, NamedLine, File, content_of, section_lines, type_line, named_line, is_overlap, file_of_lines}
use Rattle.conf_model.specs.ConfFaults.{pairs_of, is_shapeless, fault_at, content_fault, type_fault, relation_fault, overlap_fault, attribute_fault}
use Rattle.conf_model.specs.ConfOf.{first_fault}
use Rattle.annotation_conf.proofs.SoundLists.{Each-filter, each_weaker, each_both, each_passes}
use Rattle.annotation_conf.proofs.SoundLines.{AreNumbered, each_faultless, each_line, finds_by_number, finds_in_parts, is_read, numbers_from, number_read}
use Rattle.annotation_conf.proofs.SoundFaults.{KeepsType, KeepsRelation, KeepsOverlap, KeepsAttribute, keeps_type, keeps_relation, keeps_overlap, keeps_attribute}

-- the numbers of items ascend
abbrev pub Ascend : {X : Type 0} → (X → ℕ) → List X → Type 0
Ascend number_of [] = Unit {0}
Ascend number_of (x ∷ xs) = Each (λ y. number_of x < number_of y) xs × Ascend number_of xs

pub Ascend-filter : {X : Type 0} (number_of : X → ℕ) (p : X → Bool) (xs : List X) → Ascend number_of xs → Ascend number_of (filter p xs)
Ascend-filter number_of p [] a = tt
Ascend-filter number_of p (x ∷ xs) a =
    elim (p x) as (λ b. Ascend number_of (cond b (x ∷ filter p xs) (filter p xs))) [
      | true ↦ (Each-filter (λ y. number_of x < number_of y) p xs a.0, Ascend-filter number_of p xs a.1)
      | false ↦ Ascend-filter number_of p xs a.1
    ]

pub Ascend-section_lines : {X : Type 0} (section : Section) (read : ℕ → List ℕ → X) (number_of : X → ℕ) (numbered : (k : ℕ) (cs : List ℕ) → number_of (read k cs) ≡ k)
    → (n : ℕ) (lines : List Line) → AreNumbered n lines → Ascend number_of (section_lines section read lines)
Ascend-section_lines section read number_of numbered n [] a = tt
Ascend-section_lines {X} section read number_of numbered n (line ∷ lines) a =
    go (content_of section read line.number line.place line.kind) refl (Ascend-section_lines section read number_of numbered (n + 1) lines a.1)
  where
    go : (o : Option X) → content_of section read line.number line.place line.kind ≡ o → Ascend number_of (section_lines section read lines)
        → Ascend number_of (cons_option o (section_lines section read lines))
    go None e more = more
    go (Some x) e more =
        let own : number_of x ≡ line.number = number_read section read number_of numbered line.number line.place line.kind x e in
        let at : line.number ≡ n = a.0 in
        (each_weaker (λ y. n + 1 ≤ number_of y) (λ y. number_of x < number_of y) (λ y h. omega arith) (section_lines section read lines) (numbers_from section read number_of numbered (n + 1) lines a.1), more)

-- a number that no item of a list has
abbrev pub IsApart : {X : Type 0} → (X → ℕ) → List X → ℕ → Type 0
IsApart number_of xs n = Each (λ x. number_of x ≡ n → ⊥) xs

-- entity types and event types stand on different lines
pub apart : (n : ℕ) (lines : List Line) → AreNumbered n lines
    → Each (λ (x : TypeLine). IsApart (λ (y : TypeLine). y.number) (section_lines Events type_line lines) x.number) (section_lines Entities type_line lines)
apart n [] a = tt
apart n (line ∷ lines) a =
    go (content_of Entities type_line line.number line.place line.kind) (content_of Events type_line line.number line.place line.kind) refl refl (apart (n + 1) lines a.1)
  where
    entities : List TypeLine
    entities = section_lines Entities type_line lines

    events : List TypeLine
    events = section_lines Events type_line lines

    later : (section : Section) → Each (λ (y : TypeLine). n + 1 ≤ y.number) (section_lines section type_line lines)
    later section = numbers_from section type_line (λ y. y.number) (λ k cs. refl) (n + 1) lines a.1

    go : (o p : Option TypeLine) → content_of Entities type_line line.number line.place line.kind ≡ o → content_of Events type_line line.number line.place line.kind ≡ p
        → Each (λ (x : TypeLine). IsApart (λ (y : TypeLine). y.number) (section_lines Events type_line lines) x.number) (section_lines Entities type_line lines)
        → Each (λ (x : TypeLine). IsApart (λ (y : TypeLine). y.number) (cons_option p (section_lines Events type_line lines)) x.number) (cons_option o (section_lines Entities type_line lines))
    go None None e f more = more
    go (Some x) None e f more =
        let own : x.number ≡ line.number = number_read Entities type_line (λ y. y.number) (λ k cs. refl) line.number line.place line.kind x e in
        let at : line.number ≡ n = a.0 in
        (each_weaker (λ (y : TypeLine). n + 1 ≤ y.number) (λ y. y.number ≡ x.number → ⊥) (λ y h same. omega arith) (section_lines Events type_line lines) (later Events), more)
    go None (Some y) e f more =
        let own : y.number ≡ line.number = number_read Events type_line (λ z. z.number) (λ k cs. refl) line.number line.place line.kind y f in
        let at : line.number ≡ n = a.0 in
        each_both (λ (x : TypeLine). n + 1 ≤ x.number) (λ x. IsApart (λ (z : TypeLine). z.number) (section_lines Events type_line lines) x.number)
        (λ x. IsApart (λ (z : TypeLine). z.number) (y ∷ section_lines Events type_line lines) x.number)
        (λ x h rest. ((λ same. omega arith), rest)) (section_lines Entities type_line lines) (later Entities) more
    go (Some x) (Some y) e f more =
        let r = is_read Entities type_line line.number line.place line.kind x e in
        let s = is_read Events type_line line.number line.place line.kind y f in
        absurd (let no : Within Entities ≡ Within Events = sym r.place_is ∙ s.place_is in cc)

-- what each entry keeps
pub record KeepsAll (file : File) : Type 0 where
  pub entities : Each (KeepsType file file.entities [] false) file.entities
  pub events : Each (λ (line : TypeLine). KeepsType file file.events (pairs_of line.pieces) (list_any is_shapeless line.pieces) line) file.events
  pub relations : Each (KeepsRelation file) file.relations
  pub overlaps : Each (KeepsOverlap file) file.overlaps
  pub attributes : Each (KeepsAttribute file) file.attributes
  pub entities_ascend : Ascend (λ (line : TypeLine). line.number) file.entities
  pub events_ascend : Ascend (λ (line : TypeLine). line.number) file.events
  pub events_apart : Each (λ (x : TypeLine). IsApart (λ (y : TypeLine). y.number) file.events x.number) file.entities
  pub relations_ascend : Ascend (λ (line : NamedLine). line.number) file.relations
  pub attributes_ascend : Ascend (λ (line : NamedLine). line.number) file.attributes

-- at its place and of its kind a line has no fault
at_content : (file : File) (section : Section) (line : Line) (cs : List ℕ) → fault_at file line.number line.place line.kind ≡ None → line.place ≡ Within section → line.kind ≡ Content cs
    → content_fault file line.number section ≡ None
at_content file section line cs e place kind =
    sym (ap (λ p. fault_at file line.number p line.kind) place ∙ ap (fault_at file line.number (Within section)) kind) ∙ e

read_relation : ℕ → List ℕ → NamedLine
read_relation = λ number cs. named_line number (skip_leading_whitespace cs)

pub keeps_all : (lines : List Line) → AreNumbered 1 lines → first_fault (file_of_lines lines) lines ≡ None → KeepsAll (file_of_lines lines)
unfolding read_relation
keeps_all lines a e =
    let file = file_of_lines lines in
    let each = each_faultless file lines e in
    let mixed : List NamedLine = section_lines Relations read_relation lines in
    let of_mixed : Each (λ (line : NamedLine). (cond (is_overlap line) (overlap_fault file line) (relation_fault file line)) ≡ None) mixed =
    each_line Relations read_relation (λ (line : NamedLine). line.number) (λ k cs. refl)
    (λ k. find (λ (line : NamedLine). line.number == k) (filter (λ line. not (is_overlap line)) mixed ++ filter is_overlap mixed)) mixed
    (λ line. cond (is_overlap line) (overlap_fault file line) (relation_fault file line))
    (finds_in_parts Relations read_relation (λ (line : NamedLine). line.number) (λ k cs. refl) is_overlap mixed) 1 lines [] a refl tt
    (each_weaker (λ line. fault_at file line.number line.place line.kind ≡ None) _ (λ line f cs place kind. at_content file Relations line cs f place kind) lines each) in
    record {
      entities =
          each_weaker (λ (line : TypeLine). type_fault file file.entities [] false line ≡ None) (KeepsType file file.entities [] false) (λ line f. keeps_type file file.entities [] false line f) file.entities
          (each_line Entities type_line (λ (line : TypeLine). line.number) (λ k cs. refl) (λ k. find (λ (line : TypeLine). line.number == k) file.entities) file.entities
          (type_fault file file.entities [] false) (finds_by_number Entities type_line (λ (line : TypeLine). line.number) (λ k cs. refl) file.entities) 1 lines [] a refl tt
          (each_weaker (λ line. fault_at file line.number line.place line.kind ≡ None) _ (λ line f cs place kind. at_content file Entities line cs f place kind) lines each));
      events =
          each_weaker (λ (line : TypeLine). type_fault file file.events (pairs_of line.pieces) (list_any is_shapeless line.pieces) line ≡ None)
          (λ (line : TypeLine). KeepsType file file.events (pairs_of line.pieces) (list_any is_shapeless line.pieces) line)
          (λ line f. keeps_type file file.events (pairs_of line.pieces) (list_any is_shapeless line.pieces) line f) file.events
          (each_line Events type_line (λ (line : TypeLine). line.number) (λ k cs. refl) (λ k. find (λ (line : TypeLine). line.number == k) file.events) file.events
          (λ (line : TypeLine). type_fault file file.events (pairs_of line.pieces) (list_any is_shapeless line.pieces) line)
          (finds_by_number Events type_line (λ (line : TypeLine). line.number) (λ k cs. refl) file.events) 1 lines [] a refl tt
          (each_weaker (λ line. fault_at file line.number line.place line.kind ≡ None) _ (λ line f cs place kind. at_content file Events line cs f place kind) lines each));
      relations =
          each_both (λ (line : NamedLine). not (is_overlap line) ≡ true) (λ line. (cond (is_overlap line) (overlap_fault file line) (relation_fault file line)) ≡ None) (KeepsRelation file)
          (λ line is f. keeps_relation file line (sym (cond-false (is_overlap line) (overlap_fault file line) (relation_fault file line) (not-true (is_overlap line) is)) ∙ f)) file.relations
          (each_passes (λ line. not (is_overlap line)) mixed)
          (Each-filter (λ line. (cond (is_overlap line) (overlap_fault file line) (relation_fault file line)) ≡ None) (λ line. not (is_overlap line)) mixed of_mixed);
      overlaps =
          each_both (λ (line : NamedLine). is_overlap line ≡ true) (λ line. (cond (is_overlap line) (overlap_fault file line) (relation_fault file line)) ≡ None) (KeepsOverlap file)
          (λ line is f. keeps_overlap file line (sym (cond-true (is_overlap line) (overlap_fault file line) (relation_fault file line) is) ∙ f)) file.overlaps
          (each_passes is_overlap mixed)
          (Each-filter (λ line. (cond (is_overlap line) (overlap_fault file line) (relation_fault file line)) ≡ None) is_overlap mixed of_mixed);
      attributes =
          each_weaker (λ (line : NamedLine). attribute_fault file line ≡ None) (KeepsAttribute file) (λ line f. keeps_attribute file line f) file.attributes
          (each_line Attributes named_line (λ (line : NamedLine). line.number) (λ k cs. refl) (λ k. find (λ (line : NamedLine). line.number == k) file.attributes) file.attributes
          (attribute_fault file) (finds_by_number Attributes named_line (λ (line : NamedLine). line.number) (λ k cs. refl) file.attributes) 1 lines [] a refl tt
          (each_weaker (λ line. fault_at file line.number line.place line.kind ≡ None) _ (λ line f cs place kind. at_content file Attributes line cs f place kind) lines each));
      entities_ascend = Ascend-section_lines Entities type_line (λ (line : TypeLine). line.number) (λ k cs. refl) 1 lines a;
      events_ascend = Ascend-section_lines Events type_line (λ (line : TypeLine). line.number) (λ k cs. refl) 1 lines a;
      events_apart = apart 1 lines a;
      relations_ascend =
          Ascend-filter (λ (line : NamedLine). line.number) (λ line. not (is_overlap line)) mixed (Ascend-section_lines Relations read_relation (λ (line : NamedLine). line.number) (λ k cs. refl) 1 lines a);
      attributes_ascend = Ascend-section_lines Attributes named_line (λ (line : NamedLine). line.number) (λ k cs. refl) 1 lines a;
    }
