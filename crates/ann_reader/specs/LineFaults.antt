-- What is at fault with a line, whatever the layer turns out to be: its form, its IDs, and the rules that can be told line by line.
use Rattle.std.specs.Prelude.{ℕ, ◌==◌, ◌||◌, Bool, true, false, not, List, [], ◌∷◌, ◌++◌, length, nat_le, nat_lt, slice_index, count_by, find, Option, Some, None, is_none, is_some, option_map, if◌then◌else◌}
use Rattle.std.specs.Option.{option_or, option_map_or}
use Rattle.std.specs.List.{list_any, filter_map}
use Rattle.mark_base.specs.declared.ann_id.AnnId.{AnnId}
use Rattle.mark_base.specs.Names.{name_fault}
use Rattle.conf_model.specs.Configurations.{Configuration}
use Rattle.conf_model.specs.Lookups.{is_equivalence, values_of}
use Rattle.layer_model.specs.declared.rule.Rule.{Rule}
use Rattle.layer_model.specs.declared.rule.Rule.TheVariants.{UnknownType, NotForUse, NoSuch, UnknownRole, UnknownValue, BadText, LayerFull}
use Rattle.layer_rules.specs.AttributeValues.{value_refused}
use Rattle.layer_rules.specs.LayerRules.{counted_letter, is_id}
use Rattle.layer_rules.specs.MarkRules.{where_so, is_barred_type, Wanted, first_unwanted}
use Rattle.layer_rules.specs.BadTexts.{is_bad_text, is_bad_store, is_bad_entry}
use Rattle.layer_rules.specs.LowestFlaw.{first_of}
use Rattle.ann_reader.specs.declared.ann_fault.AnnWhat.{AnnWhat}
use Rattle.ann_reader.specs.declared.ann_fault.AnnWhat.TheVariants.{BadLine, BadId, IdTwice, Broken}
use Rattle.ann_reader.specs.Roles.{role_read}
use Rattle.ann_reader.specs.Lines.{Line}
use Rattle.ann_reader.specs.NamesRead.{type_read, event_read, relation_read, attribute_read, value_read}
use Rattle.mark_base.specs.ReadIds.{id_read}
use Rattle.mark_base.specs.AnnIds.{kind_read}
use Rattle.ann_reader.specs.LineForms.{Form, BadForm, TextForm, EventForm, RelationForm, AttributeForm, ClassForm, NormalForm, NoteForm, form_of, head_field}
use Rattle.ann_reader.specs.LineIds.{IdWord, id_words, own_id, is_own_misspelt, has_no_letter, is_misspelt, may_stand}
use Rattle.ann_reader.specs.LineMeanings.{ends_of}

-- ---- form and IDs

-- no form
abbrev pub is_formless : Form → Bool
is_formless BadForm = true
is_formless _ = false

-- a note whose type is no name, which no table could have
abbrev pub is_nameless : Form → Bool
is_nameless (NoteForm _ kind _ _) = is_some (name_fault kind)
is_nameless _ = false

-- no form, a note's type that is no name, or a place of an ID that begins with none of the letters
abbrev pub is_bad_line : Form → Bool
is_bad_line form = is_formless form || is_nameless form || list_any has_no_letter (id_words form)

-- its own ID is misspelt, or one that it names
abbrev pub has_bad_id : Form → Bool
has_bad_id form = is_own_misspelt form || list_any is_misspelt (id_words form)

-- the first field of the line is this ID
abbrev pub is_headed : AnnId → Line → Bool
is_headed id line = option_map_or (is_id id) (id_read (head_field line.bytes)) false

-- the first line whose first field is this ID
abbrev pub headed_by : AnnId → List Line → Option Line
headed_by id lines = find (is_headed id) lines

-- an earlier line has the ID of the line
abbrev pub is_twice : List Line → Line → Bool
is_twice all line =
    option_map_or (λ id. option_map_or (λ first. nat_lt first.number line.number) (headed_by id all) false) (own_id (form_of line.bytes)) false

-- ---- rules

-- the type is not in the table that the line needs: of all types for a span, of event types, of relation types, of attributes
abbrev pub has_unknown_type : Configuration → Form → Bool
has_unknown_type conf BadForm = false
has_unknown_type conf (TextForm _ kind _ _) = is_none (type_read conf kind)
has_unknown_type conf (EventForm _ kind _ _) = is_none (event_read conf kind)
has_unknown_type conf (RelationForm _ kind _ _) = is_none (relation_read conf kind)
has_unknown_type conf (AttributeForm _ kind _ _) = is_none (attribute_read conf kind)
has_unknown_type conf (ClassForm kind _) = is_none (relation_read conf kind)
has_unknown_type conf (NormalForm _ _ _ _ _) = false
has_unknown_type conf (NoteForm _ _ _ _) = false

-- the type only orders others, or is an equivalence in the place of a relation, or the other way round
abbrev pub has_barred_type : Configuration → Form → Bool
has_barred_type conf (TextForm _ kind _ _) = option_map_or (is_barred_type conf) (type_read conf kind) false
has_barred_type conf (EventForm _ kind _ _) = option_map_or (is_barred_type conf) (event_read conf kind) false
has_barred_type conf (RelationForm _ kind _ _) = option_map_or (is_equivalence conf) (relation_read conf kind) false
has_barred_type conf (ClassForm kind _) = option_map_or (λ id. not (is_equivalence conf id)) (relation_read conf kind) false
has_barred_type conf _ = false

-- the first ID that is named and heads no line
abbrev pub first_absent : List Line → List IdWord → Option Rule
first_absent all named = option_map NoSuch (find (λ id. is_none (headed_by id all)) (filter_map (λ id_word. id_read id_word.word) named))

-- an ID with whether its letter may stand in its place
abbrev pub wanted_of : IdWord → Option Wanted
wanted_of id_word = option_map (λ id. record { id = id; fits = may_stand id_word.letters id.kind }) (id_read id_word.word)

-- the first ID whose letter may not stand in its place
abbrev pub first_unfit : List IdWord → Option Rule
first_unfit named = first_unwanted (filter_map wanted_of named)

-- a role that the event type does not have, or two that are not those of the relation type
abbrev pub has_unknown_role : Configuration → Form → Bool
has_unknown_role conf (EventForm _ kind _ pairs) =
    option_map_or (λ id. list_any (λ pair. is_none (role_read conf id.n pair.role)) pairs) (event_read conf kind) false
has_unknown_role conf (RelationForm _ kind a b) = option_map_or (λ id. is_none (ends_of conf id a b)) (relation_read conf kind) false
has_unknown_role conf _ = false

-- a value that is not declared, is given where none are, or is absent where some are
abbrev pub has_unknown_value : Configuration → Form → Bool
has_unknown_value conf (AttributeForm _ kind _ value) =
    option_map_or (λ id. value_refused (length (values_of conf id)) (value_read conf id value)) (attribute_read conf kind) false
has_unknown_value conf _ = false

-- a text, store or entry that may not stand
abbrev pub has_bad_text : Form → Bool
has_bad_text (NormalForm _ _ store entry text) = is_bad_text text || is_bad_store store || is_bad_entry entry
has_bad_text (NoteForm _ _ _ text) = is_bad_text text
has_bad_text _ = false

-- attributes are counted under one letter
abbrev pub counted_byte : ℕ → ℕ
counted_byte b = if b == 77 then 65 else b

-- how many lines are counted together with those that begin with this byte
abbrev pub count_like : ℕ → List Line → ℕ
count_like b lines = count_by (λ line. counted_byte (slice_index line.bytes 0) == counted_byte b) lines

-- a line that begins with this byte is one too many where 10,000 before it are counted together with it
abbrev pub one_too_many : ℕ → ℕ → Option Rule
one_too_many before b = if nat_le 10000 before then option_map (λ kind. LayerFull (counted_letter kind)) (kind_read b) else None

-- the first of the rules of types and IDs that a line breaks
abbrev pub naming_rule : Configuration → List Line → Form → Option Rule
naming_rule conf all form =
    first_of (where_so (has_unknown_type conf form) UnknownType ∷ where_so (has_barred_type conf form) NotForUse ∷ first_absent all (id_words form)
    ∷ first_unfit (id_words form) ∷ [])

-- the first of the rules of roles, values, texts and counts, where so many lines before it are counted together with it
abbrev pub value_rule : Configuration → ℕ → Line → Form → Option Rule
value_rule conf before line form =
    first_of (where_so (has_unknown_role conf form) UnknownRole ∷ where_so (has_unknown_value conf form) UnknownValue
    ∷ where_so (has_bad_text form) BadText ∷ one_too_many before (slice_index line.bytes 0) ∷ [])

-- the first rule that a line breaks
abbrev pub line_rule : Configuration → List Line → ℕ → Line → Form → Option Rule
line_rule conf all before line form = option_or (naming_rule conf all form) (value_rule conf before line form)

-- ---- the first fault

-- the first fault of a line among all, where so many before it are counted together with it
unfoldable pub line_fault : Configuration → List Line → ℕ → Line → Option AnnWhat
line_fault conf all before line =
    let form = form_of line.bytes in
    if is_bad_line form then Some BadLine else if has_bad_id form then Some BadId else if is_twice all line then Some IdTwice
    else option_map Broken (line_rule conf all before line form)

-- a fault and the number of its line
pub record Fault : Type 0 where
  pub line : ℕ
  pub what : AnnWhat

-- the fault of the first of some lines that has one, behind these earlier ones
abbrev pub first_line_fault : Configuration → List Line → List Line → List Line → Option Fault
first_line_fault conf all earlier [] = None
first_line_fault conf all earlier (line ∷ more) =
    option_or (option_map (λ what. record { line = line.number; what = what }) (line_fault conf all (count_like (slice_index line.bytes 0) earlier) line))
    (first_line_fault conf all (earlier ++ (line ∷ [])) more)
