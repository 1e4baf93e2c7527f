-- The faults of a line of a column file, each by itself, and the first line that has one.
use Rattle.std.specs.Prelude.{◌≡◌, ℕ, ◌-◌, ◌==◌, ◌≤◌, ◌&&◌, ◌||◌, Bool, true, false, not, List, [], ◌∷◌, length, take, drop, reverse, nat_lt, nat_le, bytes_eq, slice_get, is_none, IsSome, Option, Some, None, option_map, Ok}
use Rattle.std.specs.Option.{option_map_or}
use Rattle.std.specs.List.{slice_split}
use Rattle.mark_base.specs.declared.fragments.Frag.{Frag}
use Rattle.mark_base.specs.declared.table_places.TypeId.{TypeId}
use Rattle.char_documents.specs.Tokens.{tokens_of}
use Rattle.type_hierarchy.specs.TypeTrees.{type_named}
use Rattle.conf_model.specs.Configurations.{Configuration}
use Rattle.layer_rules.specs.MarkRules.{is_barred_type}
use Rattle.token_columns.specs.declared.column_fault.ColumnWhat.{ColumnWhat}
use Rattle.token_columns.specs.declared.column_fault.ColumnWhat.TheVariants.{NotUtf8, BadLine, TooMany, WrongToken, UnknownType, NotForUse, Orphan, TooLong, Full, TooFew}
use Rattle.token_columns.specs.declared.label.LabelForm.{LabelForm}
use Rattle.token_columns.specs.declared.label.LabelForm.TheVariants as form
use Rattle.token_columns.specs.declared.run.Run.{Run}
use Rattle.token_columns.specs.Columns.{token_text}
use Rattle.token_columns.specs.ReadColumns.{Tag, begun, first_differing, form_of, is_blank, last_of, read_from}

-- the number of a fault: of those that a line has the least is told
abbrev pub fault_number : ColumnWhat → ℕ
fault_number NotUtf8 = 1
fault_number BadLine = 2
fault_number TooMany = 3
fault_number (WrongToken place) = 4
fault_number UnknownType = 5
fault_number NotForUse = 6
fault_number Orphan = 7
fault_number TooLong = 8
fault_number Full = 9
fault_number TooFew = 10

-- ---- a line by its parts, which TABs separate

-- what stands for the token: all before the first TAB
abbrev pub word_in : List (List ℕ) → List ℕ
word_in [] = []
word_in (word ∷ more) = word

-- the form of the label, where there is one TAB and a label of one of the three forms behind it
abbrev pub form_in : List (List ℕ) → Option LabelForm
form_in (word ∷ field ∷ []) = form_of field
form_in parts = None

-- the name behind the hyphen of the label
abbrev pub name_in : List (List ℕ) → List ℕ
name_in (word ∷ field ∷ []) = drop 2 field
name_in parts = []

-- a line by its parts, and what stands before it: the span of the last token, where it has one, how many spans have begun, and the next token, where one is left
pub record Line : Type 0 where
  pub last : Option Run
  pub begun : ℕ
  pub token : Option Frag
  pub word : List ℕ
  pub form : Option LabelForm
  pub name : List ℕ

-- the parts of a line with what stands before it
abbrev pub line_at : Option Run → ℕ → Option Frag → List ℕ → Line
line_at last count token line =
    let parts = slice_split (λ b. b == 9) line in
    record { last = last; begun = count; token = token; word = word_in parts; form = form_in parts; name = name_in parts }

-- ---- its faults

-- the label begins a span
abbrev pub begins : Option LabelForm → Bool
begins (Some form.Begin) = true
begins _ = false

-- the label goes on with a span
abbrev pub goes_on : Option LabelForm → Bool
goes_on (Some form.Inside) = true
goes_on _ = false

-- the type that the label names, where the configuration has it
abbrev pub type_in : Configuration → Line → Option TypeId
type_in conf line = type_named conf.types line.name

-- the span of the last token is of this type
abbrev pub is_of_type : Option Run → Option TypeId → Bool
is_of_type last kind = option_map_or (λ run. option_map_or (λ id. run.kind.n == id.n) kind false) last false

-- where the span starts that the label gives the token
abbrev pub start_in : Option LabelForm → Option Run → Frag → Option ℕ
start_in (Some form.Begin) last token = Some token.start
start_in (Some form.Inside) last token = option_map (λ run. run.start) last
start_in _ last token = None

-- that span has more than 10,000 characters
abbrev pub is_long : Line → Bool
is_long line = option_map_or (λ token. option_map_or (λ start. nat_lt 10000 (token.end - start)) (start_in line.form line.last token) false) line.token false

-- what stands for the token is another word, which differs from it first at this place
abbrev pub differs_at : List ℕ → Line → ℕ → Bool
differs_at text line place = option_map_or (λ token. not (bytes_eq line.word (token_text text token)) && first_differing line.word (token_text text token) == place) line.token false

-- a line has a fault, whatever others it has; that bytes are not UTF-8 and that tokens are left are no faults of a line
abbrev pub has_fault : Configuration → List ℕ → Line → ColumnWhat → Bool
has_fault conf text line NotUtf8 = false
has_fault conf text line BadLine = is_none line.form
has_fault conf text line TooMany = is_none line.token
has_fault conf text line (WrongToken place) = differs_at text line place
has_fault conf text line UnknownType = (begins line.form || goes_on line.form) && is_none (type_in conf line)
has_fault conf text line NotForUse = (begins line.form || goes_on line.form) && option_map_or (is_barred_type conf) (type_in conf line) false
has_fault conf text line Orphan = goes_on line.form && not (is_of_type line.last (type_in conf line))
has_fault conf text line TooLong = is_long line
has_fault conf text line Full = begins line.form && nat_le 10000 line.begun
has_fault conf text line TooFew = false

-- a line has a fault, and none of a lower number
pub record IsLeast (conf : Configuration) (text : List ℕ) (line : Line) (what : ColumnWhat) : Type 0 where
  pub has : has_fault conf text line what ≡ true
  pub least : (other : ColumnWhat) → has_fault conf text line other ≡ true → fault_number what ≤ fault_number other

-- ---- the first line that has one

-- what is at fault behind tokens with labels, the nearest first: the next line, which is not blank, or that there is none while a token is left
abbrev pub IsAtFault : Configuration → List ℕ → List Tag → Option Frag → Option (List ℕ) → ColumnWhat → Type 0
IsAtFault conf text before token (Some line) what = (is_blank line ≡ false) × IsLeast conf text (line_at (last_of before) (begun before) token line) what
IsAtFault conf text before token None what = (what ≡ TooFew) × IsSome token

-- of some lines that of this number, from 1, is the first at fault: those before it label the first tokens, and the next token or line is at fault
pub record IsFirstFault (conf : Configuration) (text : List ℕ) (lines : List (List ℕ)) (number : ℕ) (what : ColumnWhat) : Type 0 where
  pub labelled : List Tag
  pub before : read_from conf text 1 [] (take (length labelled) (tokens_of text)) (take (number - 1) lines) ≡ Ok labelled
  pub here : IsAtFault conf text (reverse labelled) (slice_get (tokens_of text) (length labelled)) (slice_get lines (number - 1)) what
