-- The canonical lines of a layer: the .ann file that says what one annotator has marked on one text (brat standoff manual).
use Rattle.std.specs.Prelude.{ℕ, Bool, true, false, List, [], ◌∷◌, ◌++◌, map, codes, encode_utf8_all, slice_get, Option, None, Some, unwrap_or}
use Rattle.std.specs.List.{flat_map}
use Rattle.std.specs.Ordering.{nat_cmp}
use Rattle.std.specs.FinMap as finite
use Rattle.mark_base.specs.declared.ann_id.Kind.{Kind}
use Rattle.mark_base.specs.declared.ann_id.Kind.TheVariants as letter
use Rattle.mark_base.specs.AnnIds.{spelling_of}
use Rattle.char_documents.specs.Texts.{reference_text}
use Rattle.conf_model.specs.Configurations.{Configuration}
use Rattle.conf_model.specs.ConfText.{type_name_at, relation_name_at}
use Rattle.conf_model.specs.Lookups.{relation_role, attribute_name, values_of}
use Rattle.layer_model.specs.declared.span.Span.{Span}
use Rattle.layer_model.specs.declared.event.Event.{Event}
use Rattle.layer_model.specs.declared.relation.Relation.{Relation}
use Rattle.layer_model.specs.declared.attribute.Attribute.{Attribute}
use Rattle.layer_model.specs.declared.normal.Normal.{Normal}
use Rattle.layer_model.specs.declared.note.Note.{Note}
use Rattle.layer_model.specs.declared.class.Class.{Class}
use Rattle.layer_model.specs.Annotations.{Annotations}
use Rattle.ann_writer.specs.Words.{id_word, pair_word, frags_word, argument_words, line_of, line_with_text}

-- `T1 TAB Type 0 5;16 23 TAB text`, with the reference text of the fragments
abbrev pub span_line : Configuration → List ℕ → ℕ → Span → List ℕ
span_line conf text number span =
    line_with_text (spelling_of letter.Text number) (type_name_at conf span.kind.n) (frags_word span.frags ∷ []) (encode_utf8_all (reference_text text span.frags))

-- `E1 TAB Type:T2 Role:T3 Role2:E4`
abbrev pub event_line : Configuration → ℕ → Event → List ℕ
event_line conf number event =
    line_of (spelling_of letter.Event number)
    (pair_word (type_name_at conf event.kind.n) (spelling_of letter.Text event.trigger)) (argument_words conf event.kind.n [] event.args)

-- the name of a relation type's first or second role
abbrev pub relation_role_at : Configuration → ℕ → Bool → List ℕ
relation_role_at conf kind second = unwrap_or (relation_role conf kind second) []

-- `R1 TAB Type Arg1:T3 Arg2:T4`
abbrev pub relation_line : Configuration → ℕ → Relation → List ℕ
relation_line conf number relation =
    line_of (spelling_of letter.Relation number) (relation_name_at conf relation.kind.n)
    (pair_word (relation_role_at conf relation.kind.n false) (id_word relation.first)
    ∷ pair_word (relation_role_at conf relation.kind.n true) (id_word relation.second) ∷ [])

-- `* TAB Type T1 T2 T3`
abbrev pub class_line : Configuration → Class → List ℕ
class_line conf class = line_of (codes "*") (relation_name_at conf class.kind.n) (map id_word class.members)

-- the name of an attribute
abbrev pub attribute_name_at : Configuration → ℕ → List ℕ
attribute_name_at conf kind = unwrap_or (attribute_name conf kind) []

-- the name of a value
abbrev pub value_name_at : Configuration → ℕ → ℕ → List ℕ
value_name_at conf kind value = unwrap_or (slice_get (values_of conf kind) value) []

-- the value of an attribute, where it has one
abbrev pub value_words : Configuration → ℕ → Option ℕ → List (List ℕ)
value_words conf kind None = []
value_words conf kind (Some value) = value_name_at conf kind value ∷ []

-- `A1 TAB Type E1` or `A1 TAB Type E1 Value`, and the same under `M`
abbrev pub attribute_line : Configuration → Kind → ℕ → Attribute → List ℕ
attribute_line conf kind number attribute =
    line_of (spelling_of kind number) (attribute_name_at conf attribute.kind.n) (id_word attribute.target ∷ value_words conf attribute.kind.n attribute.value)

-- `N1 TAB Reference T1 Store:Entry TAB text`
abbrev pub normal_line : ℕ → Normal → List ℕ
normal_line number normal =
    line_with_text (spelling_of letter.Normal number) (codes "Reference") (id_word normal.target ∷ pair_word normal.store normal.entry ∷ []) normal.text

-- `#1 TAB Type T1 TAB text`
abbrev pub note_line : ℕ → Note → List ℕ
note_line number note = line_with_text (spelling_of letter.Note number) note.kind (id_word note.target ∷ []) note.text

-- the lines of the annotations of one letter, by number
abbrev pub lines_of : {V : Type 0} → (ℕ → V → List ℕ) → finite.FinMap nat_cmp V → List ℕ
lines_of line marks = flat_map (λ entry. line entry.0 entry.1) (finite.entries marks)

-- the file: the lines of T, E and R, those of the classes in their order, and those of A, M, N and #
unfoldable pub ann_of : Configuration → List ℕ → Annotations → List ℕ
ann_of conf text layer =
    lines_of (span_line conf text) layer.spans ++ lines_of (event_line conf) layer.events ++ lines_of (relation_line conf) layer.relations
    ++ flat_map (class_line conf) layer.classes
    ++ lines_of (attribute_line conf letter.Attribute) layer.attributes ++ lines_of (attribute_line conf letter.Legacy) layer.legacy
    ++ lines_of normal_line layer.normals ++ lines_of note_line layer.notes
