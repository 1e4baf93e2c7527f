-- The lines of a layer have no fault but perhaps in their counts.
use Rattle.std.proofs.Common.{◌≡◌, ℕ, true, false, ◌||◌, List, [], ◌∷◌, length, Some}
use Rattle.std.specs.List.{list_any, AllByRecursion}
use Rattle.std.proofs.lemmas.Bool.{or_from}
use Rattle.conf_model.specs.Configurations.{Configuration}
use Rattle.layer_model.specs.Annotations.{Annotations}
use Rattle.layer_model.specs.Coherent.{IsCoherent}
use Rattle.layer_rules.specs.WellFormed.{IsWellFormed}
use Rattle.ann_reader.specs.Lines.{Line}
use Rattle.ann_reader.specs.LineForms.{Form, BadForm, TextForm, EventForm, RelationForm, AttributeForm, ClassForm, NormalForm, NoteForm, form_of}
use Rattle.ann_reader.specs.LineIds.{id_words, has_no_letter, is_misspelt, is_own_misspelt}
use Rattle.ann_reader.specs.LineMeanings.{Said, said_of}
use Rattle.ann_reader.specs.LineFaults.{is_formless, is_nameless, is_twice}
use Rattle.ann_reader.specs.AnnFiles.{Spells}
use Rattle.ann_reader.proofs.AnnLemmas.{AllClean}
use Rattle.ann_reader.proofs.CleanLemmas.{Clean}
use Rattle.ann_reader.proofs.PartLemmas.{IsSaid, said_parts}
use Rattle.ann_reader.proofs.StandLemmas.{all_lettered, all_spelt, none_unfit}
use Rattle.ann_reader.proofs.CoverLemmas.{Covered, is_covered}
use Rattle.ann_reader.proofs.RuleLemmas.{Keeps, span_keeps, event_keeps, relation_keeps, attribute_keeps, normal_keeps, note_keeps, class_keeps}

-- a line that spells something of a well-formed layer
keeps_one : (conf : Configuration) (text : List ℕ) (layer : Annotations) (form : Form) → IsWellFormed conf (length text) layer → IsCoherent layer → Spells conf text layer form
    → ((said : Said) → said_of conf form ≡ Some said → is_covered said.kind said.members layer.classes ≡ true) → Keeps conf layer form
keeps_one conf text layer BadForm good coherent h covered = absurd h
keeps_one conf text layer (TextForm first kind frags shown) good coherent h covered = span_keeps conf (length text) layer first kind frags shown good h.0
keeps_one conf text layer (EventForm first kind trigger pairs) good coherent h covered = event_keeps conf (length text) layer first kind trigger pairs good coherent h.0 h.1
keeps_one conf text layer (RelationForm first kind a b) good coherent h covered = relation_keeps conf (length text) layer first kind a b good coherent h
keeps_one conf text layer (AttributeForm first kind target value) good coherent h covered = attribute_keeps conf (length text) layer first kind target value good coherent h
keeps_one conf text layer (ClassForm kind ids) good coherent h covered =
    let said : IsSaid conf kind ids = said_parts conf kind ids h in
    class_keeps conf (length text) layer kind ids said good coherent (covered (record { kind = said.id; members = said.members }) said.is)
keeps_one conf text layer (NormalForm first target store entry shown) good coherent h covered = normal_keeps conf (length text) layer first target store entry shown good coherent h
keeps_one conf text layer (NoteForm first kind target shown) good coherent h covered = note_keeps conf (length text) layer first kind target shown good coherent h

-- each of some lines
abbrev pub AllKeep : Configuration → Annotations → List Line → Type 0
AllKeep conf layer lines = AllByRecursion (λ line. Keeps conf layer (form_of line.bytes)) lines

pub all_keep : (conf : Configuration) (text : List ℕ) (layer : Annotations) (lines : List Line) → IsWellFormed conf (length text) layer → IsCoherent layer
    → AllByRecursion (λ line. Spells conf text layer (form_of line.bytes)) lines → AllByRecursion (Covered conf layer.classes) lines → AllKeep conf layer lines
all_keep conf text layer [] good coherent spelt covered = tt
all_keep conf text layer (line ∷ lines) good coherent spelt covered =
    (keeps_one conf text layer (form_of line.bytes) good coherent spelt.0 covered.0, all_keep conf text layer lines good coherent spelt.1 covered.1)

-- what a line without a fault keeps
cleans_one : (conf : Configuration) (layer : Annotations) (all : List Line) (line : Line) (form : Form) → Keeps conf layer form → is_twice all line ≡ false → Clean conf all line form
cleans_one conf layer all line form keeps once = record {
  formed = or_from (is_formless form || is_nameless form) (list_any has_no_letter (id_words form)) keeps.formed (all_lettered layer (id_words form) keeps.stand);
  spelt = or_from (is_own_misspelt form) (list_any is_misspelt (id_words form)) keeps.own (all_spelt layer (id_words form) keeps.stand);
  once = once;
  types = keeps.types;
  roles = keeps.roles;
  values = keeps.values;
  letters = none_unfit layer (id_words form) keeps.stand;
}

pub all_cleaned : (conf : Configuration) (layer : Annotations) (all lines : List Line) → AllKeep conf layer lines → AllByRecursion (λ line. is_twice all line ≡ false) lines → AllClean conf all lines
all_cleaned conf layer all [] keep once = tt
all_cleaned conf layer all (line ∷ lines) keep once = (cleans_one conf layer all line (form_of line.bytes) keep.0 once.0, all_cleaned conf layer all lines keep.1 once.1)
