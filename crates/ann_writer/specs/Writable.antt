-- What the lines of a layer rest on.
use Rattle.std.specs.Prelude.{◌≡◌, ℕ, ◌<◌, ◌≤◌, List, length, Some, None, true, chars, encode_utf8_all, IsUtf8}
use Rattle.std.specs.List.{All}
use Rattle.std.specs.FinMap as finite
use Rattle.mark_base.specs.declared.arguments.Arg.{Arg}
use Rattle.mark_base.specs.Names.{name_fault}
use Rattle.char_documents.specs.Texts.{all_lie_in}
use Rattle.conf_model.specs.Configurations.{Configuration}
use Rattle.conf_model.specs.Lookups.{roles_of}
use Rattle.conf_model.specs.Sound.{IsSound}
use Rattle.layer_model.specs.declared.span.Span.{Span}
use Rattle.layer_model.specs.declared.event.Event.{Event}
use Rattle.layer_model.specs.declared.normal.Normal.{Normal}
use Rattle.layer_model.specs.declared.note.Note.{Note}
use Rattle.layer_model.specs.Annotations.{Annotations}
use Rattle.layer_model.specs.Layers.{IsLayer}

-- the fragments of a span lie in the text
abbrev pub LiesIn : List ℕ → Span → Type 0
LiesIn text span = all_lie_in text span.frags ≡ true

-- the roles of an event's arguments are declared
abbrev pub HasRoles : Configuration → Event → Type 0
HasRoles conf event = All (λ (arg : Arg). arg.role < length (roles_of conf event.kind.n)) event.args

-- each span lies in the text, and the roles of each event are declared
pub record IsWritable (conf : Configuration) (text : List ℕ) (layer : Annotations) : Type 0 where
  pub spans : (number : ℕ) (span : Span) → finite.get layer.spans number ≡ Some span → LiesIn text span
  pub events : (number : ℕ) (event : Event) → finite.get layer.events number ≡ Some event → HasRoles conf event

-- what a normalization is written with are texts
pub record NormalTexts (normal : Normal) : Type 0 where
  pub store : IsUtf8 normal.store
  pub entry : IsUtf8 normal.entry
  pub text : IsUtf8 normal.text

-- what a note is written with are texts, and its type is a name
pub record NoteTexts (note : Note) : Type 0 where
  pub kind : IsUtf8 note.kind
  pub name : name_fault note.kind ≡ None
  pub text : IsUtf8 note.text

-- the same of all normalizations and notes of a layer
pub record HasTexts (layer : Annotations) : Type 0 where
  pub normals : (number : ℕ) (normal : Normal) → finite.get layer.normals number ≡ Some normal → NormalTexts normal
  pub notes : (number : ℕ) (note : Note) → finite.get layer.notes number ≡ Some note → NoteTexts note

-- a layer of a text that every document, configuration and layer of a program make: the text has at most 200,000 characters, and each text is one
pub record IsOfProgram (conf : Configuration) (text : List ℕ) (layer : Annotations) : Type 0 where
  pub sound : IsSound conf
  pub kept : IsLayer layer
  pub texts : HasTexts layer
  pub short : length text ≤ 200000
  pub valid : IsUtf8 (encode_utf8_all text)
  pub characters : chars (encode_utf8_all text) ≡ text
