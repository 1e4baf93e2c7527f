-- What the values of a reader show of the form of a line (private calls only).
use Rattle.std.specs.Prelude.{ℕ, ◌<◌, List, length, map, option_map, ⊤}
use Rattle.ann_reader.specs.declared.line_form.Pair.{Pair as PairValue}
use Rattle.ann_reader.specs.declared.line_form.Form.{Form as FormValue}
use Rattle.ann_reader.specs.declared.line_form.Form.TheVariants as value
use Rattle.ann_reader.specs.declared.line_ids.IdWord.{IdWord as IdWordValue}
use Rattle.ann_reader.specs.declared.declared_names.Value.{Value}
use Rattle.ann_reader.specs.declared.declared_names.Value.TheVariants as given
use Rattle.layer_rules.specs.AttributeValues.{Valued, Undeclared, Declared}
use Rattle.ann_reader.specs.LineForms.{Pair, Form, BadForm, TextForm, EventForm, RelationForm, AttributeForm, ClassForm, NormalForm, NoteForm}
use Rattle.ann_reader.specs.LineIds.{IdWord}
use Rattle.ann_reader.specs.declared.line_meaning.Ends.{Ends as EndsValue}
use Rattle.ann_reader.specs.declared.line_meaning.Said.{Said as SaidValue}
use Rattle.ann_reader.specs.LineMeanings.{Ends, Said}
use denote.Ref.{Bor}

-- a text
abbrev pub seen_text : Bor (List ℕ) → List ℕ
seen_text text = text.now

-- a pair
abbrev pub seen_pair : PairValue → Pair
seen_pair pair = record { role = pair.role.now; target = pair.target.now }

-- a form
abbrev pub seen_form : FormValue → Form
seen_form value.Bad = BadForm
seen_form (value.Text first kind frags text) = TextForm first.now kind.now frags.items text.now
seen_form (value.Event first kind trigger pairs) = EventForm first.now kind.now trigger.now (map seen_pair pairs.items)
seen_form (value.Relation first kind a b) = RelationForm first.now kind.now (seen_pair a) (seen_pair b)
seen_form (value.Attribute first kind target given) = AttributeForm first.now kind.now target.now (option_map seen_text given)
seen_form (value.Class kind ids) = ClassForm kind.now (map seen_text ids.items)
seen_form (value.Normal first target store entry text) = NormalForm first.now target.now store.now entry.now text.now
seen_form (value.Note first kind target text) = NoteForm first.now kind.now target.now text.now

-- a place of an ID
abbrev pub seen_id_word : IdWordValue → IdWord
seen_id_word id_word = record { letters = id_word.letters; word = id_word.word.now }

-- a value
abbrev pub seen_value : Value → Valued
seen_value given.Undeclared = Undeclared
seen_value (given.Declared value) = Declared value

-- the two arguments of a relation
abbrev pub seen_ends : EndsValue → Ends
seen_ends ends = record { first = ends.first.now; second = ends.second.now }

-- what is said of a class
abbrev pub seen_said : SaidValue → Said
seen_said said = record { kind = said.kind.n; members = said.members }

-- a line of a class names some ID
abbrev pub NamesSome : Form → Type 0
NamesSome (ClassForm kind ids) = 0 < length ids
NamesSome _ = ⊤
