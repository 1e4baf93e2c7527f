-- Which layer an .ann file is: a relation by cases on its lines (brat standoff manual).
use Rattle.std.specs.Prelude.{◌≡◌, ◌≤◌, ℕ, Bool, true, false, List, [], length, map, chars, Some, IsSome, IsUtf8}
use Rattle.std.specs.Option.{option_map_or}
use Rattle.std.specs.List.{list_any, filter_map, fold, AllByRecursion}
use Rattle.mark_base.specs.declared.ann_id.AnnId.{AnnId}
use Rattle.mark_base.specs.declared.ann_id.Kind.{Kind}
use Rattle.char_documents.specs.Texts.{reference_text}
use Rattle.conf_model.specs.Configurations.{Configuration}
use Rattle.layer_model.specs.declared.class.Class.{Class}
use Rattle.layer_model.specs.declared.mark.Mark.{Mark}
use Rattle.layer_model.specs.Annotations.{Annotations}
use Rattle.layer_model.specs.Classes.{joined}
use Rattle.layer_model.specs.Coherent.{is_span_letter}
use Rattle.layer_model.specs.Layers.{has, has_number, mark_at}
use Rattle.layer_rules.specs.LayerRules.{is_id}
use Rattle.layer_rules.specs.WellFormed.{IsWellFormed}
use Rattle.ann_reader.specs.Lines.{Line, lines_of}
use Rattle.mark_base.specs.ReadIds.{id_read}
use Rattle.ann_reader.specs.LineForms.{Form, BadForm, TextForm, EventForm, RelationForm, AttributeForm, ClassForm, NormalForm, NoteForm, form_of}
use Rattle.ann_reader.specs.LineIds.{own_id}
use Rattle.ann_reader.specs.LineMeanings.{Said, mark_of, said_of}
use Rattle.ann_reader.specs.LineFaults.{is_twice}
use Rattle.ann_reader.specs.AnnFaults.{as_space}

-- the layer has the annotation that a line spells, under the line's ID
pub record HasMark (conf : Configuration) (layer : Annotations) (form : Form) : Type 0 where
  pub id : AnnId
  pub mark : Mark
  pub headed : own_id form ≡ Some id
  pub spelt : mark_of conf form ≡ Some mark
  pub held : mark_at layer id ≡ Some mark

-- the word is the ID of a span
abbrev pub is_span_word : List ℕ → Bool
is_span_word word = option_map_or (λ id. is_span_letter id.kind) (id_read word) false

-- a line spells something of the layer: an annotation, the text of a span being the reference text and the trigger of an event a span, or a class
abbrev pub Spells : Configuration → List ℕ → Annotations → Form → Type 0
Spells conf text layer BadForm = ⊥
Spells conf text layer (TextForm first kind frags shown) =
    HasMark conf layer (TextForm first kind frags shown) × (map as_space (chars shown) ≡ reference_text text frags)
Spells conf text layer (EventForm first kind trigger pairs) = HasMark conf layer (EventForm first kind trigger pairs) × (is_span_word trigger ≡ true)
Spells conf text layer (RelationForm first kind a b) = HasMark conf layer (RelationForm first kind a b)
Spells conf text layer (AttributeForm first kind target value) = HasMark conf layer (AttributeForm first kind target value)
Spells conf text layer (ClassForm kind ids) = IsSome (said_of conf (ClassForm kind ids))
Spells conf text layer (NormalForm first target store entry shown) = HasMark conf layer (NormalForm first target store entry shown)
Spells conf text layer (NoteForm first kind target shown) = HasMark conf layer (NoteForm first kind target shown)

-- what the lines say of classes
abbrev pub said_in : Configuration → List Line → List Said
said_in conf lines = filter_map (λ line. said_of conf (form_of line.bytes)) lines

-- with a class more, joined with those of the type that share a member
abbrev pub joined_too : List Class → Said → List Class
joined_too classes said = joined (record { n = said.kind }) said.members classes

-- the classes that are said: those of one type that share a member are one
abbrev pub classes_of : List Said → List Class
classes_of all = fold joined_too [] all

-- the line has the ID
abbrev pub is_line_of : AnnId → Line → Bool
is_line_of id line = option_map_or (is_id id) (own_id (form_of line.bytes)) false

-- the bytes are the lines of a layer, for a configuration and the characters of a text
pub record IsAnn (conf : Configuration) (text bytes : List ℕ) (layer : Annotations) : Type 0 where
  pub valid : IsUtf8 bytes
  pub spelt : AllByRecursion (λ line. Spells conf text layer (form_of line.bytes)) (lines_of bytes)
  pub once : AllByRecursion (λ line. is_twice (lines_of bytes) line ≡ false) (lines_of bytes)
  pub only : (id : AnnId) → has layer id ≡ true → list_any (is_line_of id) (lines_of bytes) ≡ true
  pub numbers : (kind : Kind) (number : ℕ) → has_number layer kind number ≡ true → number ≤ 999999999
  pub classes : layer.classes ≡ classes_of (said_in conf (lines_of bytes))
  pub well_formed : IsWellFormed conf (length text) layer
