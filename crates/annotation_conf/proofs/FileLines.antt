-- A file of more lines is the file of the lines before, grown by those.
use Rattle.std.proofs.Common.{◌≡◌, ℕ, Bool, true, false, not, cond, List, [], ◌∷◌, ◌++◌, refl, sym, ◌∙◌, ap, append_assoc, map}
use Rattle.std.specs.Str.{skip_leading_whitespace}
use Rattle.std.specs.List.{filter, cons_option}
use Rattle.std.proofs.lemmas.List.{append-nil, map-append}
use Rattle.std.proofs.lemmas.List.Elements.{filter-append, filter_map-append}
use Rattle.conf_model.specs.ConfLines.{Section, Entities, Relations, Events, Attributes, Place, Before, Nowhere, Within, Kind, Skipped, Header, Macro, Content, Line}
use Rattle.conf_model.specs.ConfNames.{NamedLine, MacroLine, type_line, named_line, content_of, section_lines, is_overlap, macro_at, macros_from, file_of_lines}
use Rattle.annotation_conf.specs.FileKept.{KeptMacro, KeptFile, kept_line, kept_type, kept_named, kept_macro, kept_file, said_of}
use Rattle.annotation_conf.specs.FileGrows.{with_line, with_kind, grown, grown_by, nothing_kept}

-- the relation type lines of `[relations]`
abbrev read_relation : ℕ → List ℕ → NamedLine
read_relation number cs = named_line number (skip_leading_whitespace cs)

-- what one line of a place and a kind declares
abbrev part : ℕ → Place → Kind → KeptFile
part number place kind = record {
  lines = [];
  entities = map kept_type (cons_option (content_of Entities type_line number place kind) []);
  events = map kept_type (cons_option (content_of Events type_line number place kind) []);
  relations = map kept_named (filter (λ line. not (is_overlap line)) (cons_option (content_of Relations read_relation number place kind) []));
  overlaps = map kept_named (filter is_overlap (cons_option (content_of Relations read_relation number place kind) []));
  attributes = map kept_named (cons_option (content_of Attributes named_line number place kind) []);
  macros = map kept_macro (macro_at [] number place kind);
}

-- one behind the other
abbrev joined : KeptFile → KeptFile → KeptFile
joined a b = record {
  lines = a.lines ++ b.lines;
  entities = a.entities ++ b.entities;
  events = a.events ++ b.events;
  relations = a.relations ++ b.relations;
  overlaps = a.overlaps ++ b.overlaps;
  attributes = a.attributes ++ b.attributes;
  macros = a.macros ++ b.macros;
}

joined-nothing : (f : KeptFile) → joined f nothing_kept ≡ f
joined-nothing f = rw (append-nil f.lines, append-nil f.entities, append-nil f.events, append-nil f.relations, append-nil f.overlaps, append-nil f.attributes, append-nil f.macros) refl

-- a line of a relation type or of overlaps
relation-joined : (f : KeptFile) (line : NamedLine) (b : Bool)
    → ◌≡◌ {A = KeptFile} (record {
      lines = f.lines;
      entities = f.entities;
      events = f.events;
      relations = cond b f.relations (f.relations ++ kept_named line ∷ []);
      overlaps = cond b (f.overlaps ++ kept_named line ∷ []) f.overlaps;
      attributes = f.attributes;
      macros = f.macros;
    }) (joined f (record {
      lines = [];
      entities = [];
      events = [];
      relations = map kept_named (cond (not b) (line ∷ []) []);
      overlaps = map kept_named (cond b (line ∷ []) []);
      attributes = [];
      macros = [];
    }))
relation-joined f line true = rw (append-nil f.lines, append-nil f.entities, append-nil f.events, append-nil f.relations, append-nil f.attributes, append-nil f.macros) refl
relation-joined f line false = rw (append-nil f.lines, append-nil f.entities, append-nil f.events, append-nil f.overlaps, append-nil f.attributes, append-nil f.macros) refl

section-joined : (f : KeptFile) (n : ℕ) (section : Section) (cs : List ℕ) → with_kind f n (Within section) (Content cs) ≡ joined f (part n (Within section) (Content cs))
section-joined f n Entities cs = rw (append-nil f.lines, append-nil f.events, append-nil f.relations, append-nil f.overlaps, append-nil f.attributes, append-nil f.macros) refl
section-joined f n Events cs = rw (append-nil f.lines, append-nil f.entities, append-nil f.relations, append-nil f.overlaps, append-nil f.attributes, append-nil f.macros) refl
section-joined f n Relations cs = relation-joined f (read_relation n cs) (is_overlap (read_relation n cs))
section-joined f n Attributes cs = rw (append-nil f.lines, append-nil f.entities, append-nil f.events, append-nil f.relations, append-nil f.overlaps, append-nil f.macros) refl

macro-joined : (f : KeptFile) (n : ℕ) (name cs : List ℕ) (macro : KeptMacro) → ◌≡◌ {A = KeptFile} (record {
  lines = f.lines;
  entities = f.entities;
  events = f.events;
  relations = f.relations;
  overlaps = f.overlaps;
  attributes = f.attributes;
  macros = f.macros ++ macro ∷ [];
}) (joined f (record { lines = []; entities = []; events = []; relations = []; overlaps = []; attributes = []; macros = macro ∷ [] }))
macro-joined f n name cs macro = rw (append-nil f.lines, append-nil f.entities, append-nil f.events, append-nil f.relations, append-nil f.overlaps, append-nil f.attributes) refl

kind-joined : (f : KeptFile) (n : ℕ) (place : Place) (kind : Kind) → with_kind f n place kind ≡ joined f (part n place kind)
kind-joined f n Before Skipped = sym (joined-nothing f)
kind-joined f n Before (Header s) = sym (joined-nothing f)
kind-joined f n Before (Macro name cs) = macro-joined f n name cs _
kind-joined f n Before (Content cs) = sym (joined-nothing f)
kind-joined f n Nowhere Skipped = sym (joined-nothing f)
kind-joined f n Nowhere (Header s) = sym (joined-nothing f)
kind-joined f n Nowhere (Macro name cs) = macro-joined f n name cs _
kind-joined f n Nowhere (Content cs) = sym (joined-nothing f)
kind-joined f n (Within s) Skipped = sym (joined-nothing f)
kind-joined f n (Within s) (Header o) = sym (joined-nothing f)
kind-joined f n (Within s) (Macro name cs) = macro-joined f n name cs _
kind-joined f n (Within s) (Content cs) = section-joined f n s cs

-- what a macro is kept as does not depend on the macros before it
macro-kept : (before : List MacroLine) (n : ℕ) (place : Place) (kind : Kind) → map kept_macro (macro_at before n place kind) ≡ map kept_macro (macro_at [] n place kind)
macro-kept before n place Skipped = refl
macro-kept before n place (Header s) = refl
macro-kept before n place (Macro name cs) = refl
macro-kept before n place (Content cs) = refl

macros_from-append : (before : List MacroLine) (ls : List Line) (line : Line)
    → macros_from before (ls ++ line ∷ []) ≡ macros_from before ls ++ macro_at (macros_from before ls) line.number line.place line.kind
macros_from-append before [] line = refl
macros_from-append before (l ∷ ls) line = macros_from-append (before ++ macro_at before l.number l.place l.kind) ls line

section_lines-append : {X Y : Type 0} (keep : X → Y) (section : Section) (read : ℕ → List ℕ → X) (ls : List Line) (line : Line)
    → map keep (section_lines section read (ls ++ line ∷ [])) ≡ map keep (section_lines section read ls) ++ map keep (cons_option (content_of section read line.number line.place line.kind) [])
section_lines-append keep section read ls line =
    ap (map keep) (filter_map-append (λ (l : Line). content_of section read l.number l.place l.kind) ls (line ∷ []))
    ∙ map-append keep (section_lines section read ls) (cons_option (content_of section read line.number line.place line.kind) [])

relations-append : (p : NamedLine → Bool) (ls : List Line) (line : Line)
    → map kept_named (filter p (section_lines Relations read_relation (ls ++ line ∷ [])))
    ≡ map kept_named (filter p (section_lines Relations read_relation ls)) ++ map kept_named (filter p (cons_option (content_of Relations read_relation line.number line.place line.kind) []))
relations-append p ls line =
    let one = cons_option (content_of Relations read_relation line.number line.place line.kind) [] in
    ap (λ all. map kept_named (filter p all)) (filter_map-append (λ (l : Line). content_of Relations read_relation l.number l.place l.kind) ls (line ∷ []))
    ∙ ap (map kept_named) (filter-append p (section_lines Relations read_relation ls) one)
    ∙ map-append kept_named (filter p (section_lines Relations read_relation ls)) (filter p one)

macros-append : (ls : List Line) (line : Line)
    → map kept_macro (macros_from [] (ls ++ line ∷ [])) ≡ map kept_macro (macros_from [] ls) ++ map kept_macro (macro_at [] line.number line.place line.kind)
macros-append ls line =
    ap (map kept_macro) (macros_from-append [] ls line)
    ∙ map-append kept_macro (macros_from [] ls) (macro_at (macros_from [] ls) line.number line.place line.kind)
    ∙ ap (λ m. map kept_macro (macros_from [] ls) ++ m) (macro-kept (macros_from [] ls) line.number line.place line.kind)

-- one line more
pub grown-is : (ls : List Line) (line : Line) → grown (kept_file (file_of_lines ls)) line ≡ kept_file (file_of_lines (ls ++ line ∷ []))
grown-is ls line =
    let file = kept_file (file_of_lines ls) in
    kind-joined (with_line file line.number (said_of line.place line.kind)) line.number line.place line.kind
    ∙ rw (
      map-append kept_line ls (line ∷ []),
      section_lines-append kept_type Entities type_line ls line,
      section_lines-append kept_type Events type_line ls line,
      section_lines-append kept_named Attributes named_line ls line,
      relations-append (λ one. not (is_overlap one)) ls line,
      relations-append is_overlap ls line,
      macros-append ls line,
      append-nil (map kept_line ls ++ kept_line line ∷ []),
    ) refl

-- more lines
pub grown_by-is : (before ls : List Line) → grown_by (kept_file (file_of_lines before)) ls ≡ kept_file (file_of_lines (before ++ ls))
grown_by-is before [] = rw (append-nil before) refl
grown_by-is before (line ∷ ls) =
    ap (λ f. grown_by f ls) (grown-is before line)
    ∙ grown_by-is (before ++ line ∷ []) ls
    ∙ ap (λ all. kept_file (file_of_lines all)) (append_assoc before (line ∷ []) ls)
