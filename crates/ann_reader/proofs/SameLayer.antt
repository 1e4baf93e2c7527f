-- The layer of a file is the one that its lines say.
use Rattle.std.proofs.Common.{◌≡◌, ℕ, List, [], ◌∷◌, length, refl, sym, ◌∙◌, subst}
use Rattle.std.specs.List.{AllByRecursion}
use Rattle.mark_base.specs.declared.ann_id.Kind.TheVariants as letter
use Rattle.conf_model.specs.Configurations.{Configuration}
use Rattle.layer_model.specs.Annotations.{Annotations, no_marks}
use Rattle.layer_model.specs.Classes.{IsClassList}
use Rattle.layer_model.specs.Layers.{IsLayer}
use Rattle.layer_model.specs.Coherent.{IsCoherent}
use Rattle.layer_rules.specs.WellFormed.{IsWellFormed}
use Rattle.ann_reader.specs.Lines.{Line, lines_of}
use Rattle.ann_reader.specs.LineForms.{Form, BadForm, TextForm, EventForm, RelationForm, AttributeForm, ClassForm, NormalForm, NoteForm, form_of}
use Rattle.ann_reader.specs.AnnFaults.{layer_of}
use Rattle.ann_reader.specs.AnnFiles.{Spells, IsAnn}
use Rattle.ann_reader.proofs.AnnLemmas.{AllClean, Holds, all_hold}
use Rattle.ann_reader.proofs.CoverLemmas.{Covered, all_covered}
use Rattle.ann_reader.proofs.FileLemmas.{come_in, rising}
use Rattle.ann_reader.proofs.KeptLemmas.{AllKeep, all_keep, all_cleaned}
use Rattle.ann_reader.proofs.SaidLemmas.{lines_classes}
use Rattle.ann_reader.proofs.SmallLemmas.{small}
use Rattle.ann_reader.proofs.UniqueLemmas.{Decides, decides, one_decided}

-- what lines say is a layer, where its classes are those of one
pub is_layer : (conf : Configuration) (lines : List Line) → IsClassList (layer_of conf lines).classes → IsLayer (layer_of conf lines)
is_layer conf lines classes = record {
  spans = λ n h. small conf lines letter.Text n h;
  events = λ n h. small conf lines letter.Event n h;
  relations = λ n h. small conf lines letter.Relation n h;
  attributes = λ n h. small conf lines letter.Attribute n h;
  legacy = λ n h. small conf lines letter.Legacy n h;
  normals = λ n h. small conf lines letter.Normal n h;
  notes = λ n h. small conf lines letter.Note n h;
  classes = classes;
}

-- ---- what a line spells of one layer it spells of another that has the line's annotation

spells_too : (conf : Configuration) (text : List ℕ) (layer other : Annotations) (form : Form) → Spells conf text layer form → Holds conf other form → Spells conf text other form
spells_too conf text layer other BadForm h held = absurd h
spells_too conf text layer other (TextForm a b c d) h held = (held, h.1)
spells_too conf text layer other (EventForm a b c d) h held = held
spells_too conf text layer other (RelationForm a b c d) h held = held
spells_too conf text layer other (AttributeForm a b c d) h held = held
spells_too conf text layer other (ClassForm a b) h held = held
spells_too conf text layer other (NormalForm a b c d x) h held = held
spells_too conf text layer other (NoteForm a b c d) h held = held

all_spell_too : (conf : Configuration) (text : List ℕ) (layer other : Annotations) (lines : List Line) → AllByRecursion (λ line. Spells conf text layer (form_of line.bytes)) lines
    → AllByRecursion (λ line. Holds conf other (form_of line.bytes)) lines → AllByRecursion (λ line. Spells conf text other (form_of line.bytes)) lines
all_spell_too conf text layer other [] h held = tt
all_spell_too conf text layer other (line ∷ lines) h held = (spells_too conf text layer other (form_of line.bytes) h.0 held.0, all_spell_too conf text layer other lines h.1 held.1)

-- ---- the layer

-- well-formed layers are coherent
abbrev pub Cohere : Type 0
Cohere = (conf : Configuration) (characters : ℕ) (layer : Annotations) → IsLayer layer → IsWellFormed conf characters layer → IsCoherent layer

-- the lines of a layer keep what lines without a fault keep
pub file_keeps : Cohere → (conf : Configuration) (text bytes : List ℕ) (layer : Annotations) → IsLayer layer → IsAnn conf text bytes layer → AllKeep conf layer (lines_of bytes)
file_keeps cohere conf text bytes layer is file =
    all_keep conf text layer (lines_of bytes) file.well_formed (cohere conf (length text) layer is file.well_formed) file.spelt
    (subst (λ classes. AllByRecursion (Covered conf classes) (lines_of bytes)) (sym file.classes) (all_covered conf (lines_of bytes)))

pub file_cleans : Cohere → (conf : Configuration) (text bytes : List ℕ) (layer : Annotations) → IsLayer layer → IsAnn conf text bytes layer → AllClean conf (lines_of bytes) (lines_of bytes)
file_cleans cohere conf text bytes layer is file = all_cleaned conf layer (lines_of bytes) (lines_of bytes) (file_keeps cohere conf text bytes layer is file) file.once

-- the layer of a file is the one that its lines say
pub same_layer : Cohere → (conf : Configuration) (text bytes : List ℕ) (layer : Annotations) → IsLayer layer → IsAnn conf text bytes layer → layer ≡ layer_of conf (lines_of bytes)
same_layer cohere conf text bytes layer is file =
    let lines = lines_of bytes in
    let held = all_hold conf lines [] lines 1 refl (rising bytes) tt (file_cleans cohere conf text bytes layer is file) in
    let classes = lines_classes conf no_marks lines in
    let said : Decides conf text bytes (layer_of conf lines) = record {
      spelt = all_spell_too conf text layer (layer_of conf lines) lines file.spelt held;
      only = λ id h. come_in conf lines id h;
      classes = classes;
    } in
    one_decided conf text bytes layer (layer_of conf lines) is (is_layer conf lines (subst IsClassList (file.classes ∙ sym classes) is.classes)) (decides conf text bytes layer file) said
