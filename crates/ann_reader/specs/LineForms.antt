-- The forms of lines, one for each letter (brat standoff manual: the sections on text-bound annotations, events, relations, attributes, normalizations and notes).
use Rattle.std.specs.Prelude.{ℕ, ◌==◌, ◌||◌, ◌&&◌, Bool, not, List, [], ◌∷◌, length, map, slice_index, bytes_eq, codes, Option, Some, None, if◌then◌else◌}
use Rattle.std.specs.List.{list_any, before_first, after_first, slice_split}
use Rattle.mark_base.specs.declared.fragments.Frag.{Frag}
use Rattle.ann_reader.specs.Lines.{has_tab, first_field, behind_tab, without_return, without_end}
use Rattle.ann_reader.specs.Words.{words_of, behind_word, frag_read, all_of}

-- a pair `Role:ID`, by its parts
pub record Pair : Type 0 where
  pub role : List ℕ
  pub target : List ℕ

-- a line by its parts as they are spelt; `BadForm` where it has none of the forms
pub data Form : Type 0 where
  BadForm : Form
  TextForm : (first kind : List ℕ) → List Frag → (text : List ℕ) → Form
  EventForm : (first kind trigger : List ℕ) → List Pair → Form
  RelationForm : (first kind : List ℕ) → Pair → Pair → Form
  AttributeForm : (first kind target : List ℕ) → Option (List ℕ) → Form
  ClassForm : (kind : List ℕ) → List (List ℕ) → Form
  NormalForm : (first target store entry text : List ℕ) → Form
  NoteForm : (first kind target text : List ℕ) → Form

-- a byte stands in a word
abbrev pub has_byte : ℕ → List ℕ → Bool
has_byte c word = list_any (λ b. b == c) word

-- what stands before the first such byte and behind it
abbrev pub before_byte : ℕ → List ℕ → List ℕ
before_byte c word = before_first (λ b. b == c) word

-- what stands behind the first such byte
abbrev pub behind_byte : ℕ → List ℕ → List ℕ
behind_byte c word = after_first (λ b. b == c) word

-- a pair, split at its first `:`; its role is not empty
abbrev pub pair_read : List ℕ → Option Pair
pair_read word =
    if has_byte 58 word && not (length (before_byte 58 word) == 0) then Some (record { role = before_byte 58 word; target = behind_byte 58 word }) else None

-- the pairs of some words
abbrev pub pairs_read : List (List ℕ) → Option (List Pair)
pairs_read words = all_of (map pair_read words)

-- the fragments that `;` separates, each a start and an end
abbrev pub frags_read : List ℕ → Option (List Frag)
frags_read bytes = all_of (map (λ piece. frag_read (words_of piece)) (slice_split (λ b. b == 59) bytes))

-- ---- T: a type, fragments, and a text

-- by the words of the second field, its fragments, and the text
abbrev pub text_with : List ℕ → List (List ℕ) → Option (List Frag) → List ℕ → Form
text_with first (kind ∷ _) (Some frags) text = TextForm first kind frags text
text_with first _ _ text = BadForm

-- by the second field and the text
abbrev pub text_form : List ℕ → List ℕ → List ℕ → Form
text_form first second text = text_with first (words_of second) (frags_read (behind_word second)) text

-- ---- E: a type with its trigger, and any number of arguments

-- by the pairs of the second field, of which the first is the type with its trigger
abbrev pub event_with : List ℕ → Option (List Pair) → Form
event_with first (Some (own ∷ pairs)) = EventForm first own.role own.target pairs
event_with first _ = BadForm

-- by the second field
abbrev pub event_form : List ℕ → List ℕ → Form
event_form first second = event_with first (pairs_read (words_of second))

-- ---- R: a type and two arguments

-- by the type and the pairs behind it, which are two
abbrev pub relation_with : List ℕ → List ℕ → Option (List Pair) → Form
relation_with first kind (Some (a ∷ b ∷ [])) = RelationForm first kind a b
relation_with first kind _ = BadForm

-- by the words of the second field
abbrev pub relation_by : List ℕ → List (List ℕ) → Form
relation_by first (kind ∷ words) = relation_with first kind (pairs_read words)
relation_by first [] = BadForm

-- by the second field
abbrev pub relation_form : List ℕ → List ℕ → Form
relation_form first second = relation_by first (words_of second)

-- ---- A and M: a type, a target, and perhaps a value

-- by the words of the second field
abbrev pub attribute_by : List ℕ → List (List ℕ) → Form
attribute_by first (kind ∷ target ∷ []) = AttributeForm first kind target None
attribute_by first (kind ∷ target ∷ value ∷ []) = AttributeForm first kind target (Some value)
attribute_by first _ = BadForm

-- by the second field
abbrev pub attribute_form : List ℕ → List ℕ → Form
attribute_form first second = attribute_by first (words_of second)

-- ---- `*`: a type and members

-- by the words of the second field; the first field is `*` alone
abbrev pub class_by : List ℕ → List (List ℕ) → Form
class_by first (kind ∷ member ∷ members) = if bytes_eq first (42 ∷ []) then ClassForm kind (member ∷ members) else BadForm
class_by first _ = BadForm

-- by the second field
abbrev pub class_form : List ℕ → List ℕ → Form
class_form first second = class_by first (words_of second)

-- ---- N: the word `Reference`, a target, and an entry of a store, split at its first `:`; a text, which may be absent

-- by the words of the second field, and the text
abbrev pub normal_by : List ℕ → List (List ℕ) → List ℕ → Form
normal_by first (word ∷ target ∷ entry ∷ []) text =
    if bytes_eq word (codes "Reference") && has_byte 58 entry then NormalForm first target (before_byte 58 entry) (behind_byte 58 entry) text else BadForm
normal_by first _ text = BadForm

-- by the second field and the text
abbrev pub normal_form : List ℕ → List ℕ → List ℕ → Form
normal_form first second text = normal_by first (words_of second) text

-- ---- #: a type, a target, and a text

-- by the words of the second field, and the text
abbrev pub note_by : List ℕ → List (List ℕ) → List ℕ → Form
note_by first (kind ∷ target ∷ []) text = NoteForm first kind target text
note_by first _ text = BadForm

-- by the second field and the text
abbrev pub note_form : List ℕ → List ℕ → List ℕ → Form
note_form first second text = note_by first (words_of second) text

-- ---- a line by its first byte

-- the form of two fields of a line that begins with this byte: E, R, `*`, A or M
abbrev pub two_form : ℕ → List ℕ → List ℕ → Form
two_form b first second =
    if b == 69 then event_form first second else if b == 82 then relation_form first second else if b == 42 then class_form first second
    else attribute_form first second

-- a line of two fields: spaces, TABs and one carriage return at its end are dropped, and then it has one TAB
abbrev pub of_two : ℕ → List ℕ → Form
of_two b bytes =
    let line = without_end bytes in
    if has_tab line && not (has_tab (behind_tab line)) then two_form b (first_field bytes) (behind_tab line) else BadForm

-- the form of three fields of a line that begins with this byte: T, N or #
abbrev pub three_form : ℕ → List ℕ → List ℕ → List ℕ → Form
three_form b first second text =
    if b == 84 then text_form first second text else if b == 78 then normal_form first second text else note_form first second text

-- a line of three fields: the text is all that stands behind the second TAB, but for one carriage return at its end; an N line may lack it, and then the text is empty and no carriage return is dropped
abbrev pub of_three : ℕ → List ℕ → Form
of_three b line =
    let rest = behind_tab line in
    if has_tab line && (b == 78 || has_tab rest) then three_form b (first_field line) (first_field rest) (without_return (behind_tab rest)) else BadForm

-- a line of two fields begins with one of these
abbrev pub begins_two : ℕ → Bool
begins_two b = b == 69 || b == 82 || b == 65 || b == 77 || b == 42

-- a line of three fields with one of these
abbrev pub begins_three : ℕ → Bool
begins_three b = b == 84 || b == 78 || b == 35

-- the form of a line that begins with this byte
abbrev pub form_by : ℕ → List ℕ → Form
form_by b line = if begins_two b then of_two b line else if begins_three b then of_three b line else BadForm

-- the form of a line
unfoldable pub form_of : List ℕ → Form
form_of line = form_by (slice_index line 0) line

-- ---- the first field of a line, with a form or without one

-- the first field as it counts for the IDs of a file: of a line that begins with E, R, A, M or `*` the spaces, TABs and the carriage return at the end are dropped before
abbrev pub head_field : List ℕ → List ℕ
head_field line = if begins_two (slice_index line 0) then first_field (without_end line) else first_field line
