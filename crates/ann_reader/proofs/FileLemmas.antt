-- A file without a fault is an .ann file of the layer that its lines say, and a file has at most one layer.
use Rattle.std.proofs.Common.{◌≡◌, ℕ, ◌==◌, true, false, List, [], ◌∷◌, refl, None, length, inl, inr}
use Rattle.std.specs.Prelude.{IsUtf8}
use Rattle.std.specs.Option.{option_or}
use Rattle.std.specs.List.{list_any, slice_split, AllByRecursion}
use Rattle.conf_model.specs.Configurations.{Configuration}
use Rattle.layer_model.specs.Annotations.{Annotations, no_marks}
use Rattle.layer_model.specs.Layers.{has}
use Rattle.layer_rules.specs.WellFormed.{IsWellFormed, least_flaw}
use Rattle.layer_rules.proofs.LawLemmas.{unflawed_is_well_formed}
use Rattle.mark_base.specs.declared.ann_id.AnnId.{AnnId}
use Rattle.ann_reader.specs.Lines.{Line, lines_of}
use Rattle.ann_reader.specs.LineForms.{Form, BadForm, TextForm, EventForm, RelationForm, AttributeForm, ClassForm, NormalForm, NoteForm, form_of}
use Rattle.ann_reader.specs.LineFaults.{is_twice, first_line_fault}
use Rattle.ann_reader.specs.AnnFaults.{layer_of, layer_fault, first_text_fault, text_fault, text_differs, lines_fault}
use Rattle.ann_reader.specs.AnnFiles.{IsAnn, Spells, is_line_of}
use Rattle.ann_reader.proofs.CleanLemmas.{later_none, unmapped}
use Rattle.ann_reader.proofs.SaidLemmas.{lines_came, lines_classes, none_there}
use Rattle.ann_reader.proofs.SmallLemmas.{small}
use Rattle.ann_reader.proofs.AnnLemmas.{Holds, AllClean, all_clean, all_hold, lines_rise, Rises}
use Rattle.ann_reader.proofs.TextLemmas.{text_shown}

spells : (conf : Configuration) (text : List ℕ) (layer : Annotations) (form : Form)
    → IsWellFormed conf (length text) layer → Holds conf layer form → text_differs text form ≡ None → Spells conf text layer form
spells conf text layer BadForm good h e = h
spells conf text layer (TextForm first kind frags shown) good h e = (h, text_shown conf text layer first kind frags shown good h e)
spells conf text layer (EventForm a b c d) good h e = h
spells conf text layer (RelationForm a b c d) good h e = h
spells conf text layer (AttributeForm a b c d) good h e = h
spells conf text layer (ClassForm a b) good h e = h
spells conf text layer (NormalForm a b c d x) good h e = h
spells conf text layer (NoteForm a b c d) good h e = h

all_spell : (conf : Configuration) (text : List ℕ) (layer : Annotations) (lines : List Line)
    → IsWellFormed conf (length text) layer → AllByRecursion (λ line. Holds conf layer (form_of line.bytes)) lines → first_text_fault text lines ≡ None
    → AllByRecursion (λ line. Spells conf text layer (form_of line.bytes)) lines
all_spell conf text layer [] good h e = tt
all_spell conf text layer (line ∷ lines) good h e =
    let parts = later_none (text_fault text line) (first_text_fault text lines) e in (
      spells conf text layer (form_of line.bytes) good h.0 (unmapped _ (text_differs text (form_of line.bytes)) parts.0),
      all_spell conf text layer lines good h.1 parts.1,
    )

all_once : (conf : Configuration) (all lines : List Line) → AllClean conf all lines → AllByRecursion (λ line. is_twice all line ≡ false) lines
all_once conf all [] c = tt
all_once conf all (line ∷ lines) c = (c.0.once, all_once conf all lines c.1)

pub come_in : (conf : Configuration) (lines : List Line) (id : AnnId) → has (layer_of conf lines) id ≡ true → list_any (is_line_of id) lines ≡ true
come_in conf lines id h =
    elim (lines_came conf no_marks lines id h) as (λ _. list_any (is_line_of id) lines ≡ true) [ inl t ↦ absurd (none_there id t) | inr t ↦ t ]

pub rising : (bytes : List ℕ) → Rises 1 (lines_of bytes)
unfolding lines_of
rising bytes = lines_rise 1 (slice_split (λ b. b == 10) bytes)

-- lines without a fault are those of the layer that they say
pub read_file : (conf : Configuration) (text bytes : List ℕ) → IsUtf8 bytes → lines_fault conf text (lines_of bytes) ≡ None
    → IsAnn conf text bytes (layer_of conf (lines_of bytes))
read_file conf text bytes valid e =
    let lines = lines_of bytes in
    let a = later_none (first_line_fault conf lines [] lines) (option_or (layer_fault conf (length text) lines) (first_text_fault text lines)) e in
    let b = later_none (layer_fault conf (length text) lines) (first_text_fault text lines) a.1 in
    let good = unflawed_is_well_formed conf (length text) (layer_of conf lines) (unmapped _ (least_flaw conf (length text) (layer_of conf lines)) b.0) in
    let each = all_clean conf lines [] lines a.0 in
    record {
      valid = valid;
      spelt = all_spell conf text (layer_of conf lines) lines good (all_hold conf lines [] lines 1 refl (rising bytes) tt each) b.1;
      once = all_once conf lines lines each;
      only = λ id h. come_in conf lines id h;
      numbers = small conf lines;
      classes = lines_classes conf no_marks lines;
      well_formed = good;
    }
