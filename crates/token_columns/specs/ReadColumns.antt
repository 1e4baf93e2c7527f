-- What the lines of a column file say, or the first fault.
use Rattle.std.specs.Prelude.{◌≡◌, ℕ, ◌+◌, ◌-◌, ◌==◌, ◌||◌, ◌&&◌, Bool, List, [], ◌∷◌, length, take, nat_lt, nat_le, bytes_eq, codes, chars, drop, slice_index, count_by, is_none, Option, Some, None, Result, Ok, Err, if◌then◌else◌, ⊤}
use Rattle.std.specs.List.{list_all, slice_split, common_prefix_len}
use Rattle.std.specs.Str.Lines.{lines}
use Rattle.std.specs.Str.Lossy.{utf8_valid_len}
use Rattle.mark_base.specs.declared.fragments.Frag.{Frag}
use Rattle.mark_base.specs.declared.table_places.TypeId.{TypeId}
use Rattle.mark_base.specs.Names.{name_fault}
use Rattle.char_documents.specs.Tokens.{tokens_of}
use Rattle.type_hierarchy.specs.TypeTrees.{type_named}
use Rattle.conf_model.specs.Configurations.{Configuration}
use Rattle.layer_rules.specs.MarkRules.{is_barred_type}
use Rattle.token_columns.specs.declared.column_fault.ColumnWhat.{ColumnWhat}
use Rattle.token_columns.specs.declared.column_fault.ColumnWhat.TheVariants.{NotUtf8, BadLine, TooMany, WrongToken, UnknownType, NotForUse, Orphan, TooLong, Full, TooFew}
use Rattle.token_columns.specs.declared.column_fault.ColumnFault.{ColumnFault}
use Rattle.token_columns.specs.declared.column_fault.ColumnFault.TheVariants.{At, Memory}
use Rattle.token_columns.specs.declared.label.Label.{Label}
use Rattle.token_columns.specs.declared.label.Label.TheVariants as label
use Rattle.token_columns.specs.declared.label.LabelForm.{LabelForm}
use Rattle.token_columns.specs.declared.label.LabelForm.TheVariants as form
use Rattle.token_columns.specs.declared.line.Judged.{Judged}
use Rattle.token_columns.specs.declared.line.Judged.TheVariants.{Fault, Read}
use Rattle.token_columns.specs.declared.run.Run.{Run}
use Rattle.token_columns.specs.Columns.{token_text}

-- a token with its label
pub record Tag : Type 0 where
  pub token : Frag
  pub label : Label

-- ---- what stands before a line, the nearest first

-- a span with a token more
abbrev pub extended : Option Run → Frag → Option Run
extended None token = None
extended (Some run) token = Some (record run { end = token.end })

-- the span that a token of this label leaves open, behind one that may be open
abbrev pub opened : Option Run → Frag → Label → Option Run
opened last token label.Out = None
opened last token (label.Begin kind) = Some (record { kind = kind; start = token.start; end = token.end })
opened last token (label.Inside kind) = extended last token

-- the span of the last token, where it has one: from its `B-` on
abbrev pub last_of : List Tag → Option Run
last_of [] = None
last_of (tag ∷ before) = opened (last_of before) tag.token tag.label

-- a token begins a span
abbrev pub is_begin : Label → Bool
is_begin label.Out = Bool.false
is_begin (label.Begin kind) = Bool.true
is_begin (label.Inside kind) = Bool.false

-- how many spans have begun
abbrev pub begun : List Tag → ℕ
begun before = count_by (λ tag. is_begin tag.label) before

-- ---- a line

-- only spaces, TABs and carriage returns
abbrev pub is_blank : List ℕ → Bool
is_blank line = list_all (λ b. b == 32 || b == 9 || b == 13) line

-- `B-` or `I-` with a name
abbrev pub is_typed : ℕ → List ℕ → Bool
is_typed letter field = slice_index field 0 == letter && slice_index field 1 == 45 && is_none (name_fault (drop 2 field))

-- which of the three forms a label has
abbrev pub form_of : List ℕ → Option LabelForm
form_of field =
    if bytes_eq field (codes "O") then Some form.Out else if is_typed 66 field then Some form.Begin
    else if is_typed 73 field then Some form.Inside else None

-- the first place, in characters, at which what stands for a token is not the token
abbrev pub first_differing : List ℕ → List ℕ → ℕ
first_differing shown token = common_prefix_len (λ a b. a == b) (chars shown) (chars token)

-- a span of a type begins at a token, where so many have begun
abbrev pub begin_at : ℕ → Frag → TypeId → Judged
begin_at count token kind =
    if nat_lt 10000 (token.end - token.start) then Fault TooLong else if nat_le 10000 count then Fault Full else Read (label.Begin kind)

-- a span of a type goes on at a token, behind the span that is open
abbrev pub inside_at : Option Run → Frag → TypeId → Judged
inside_at None token kind = Fault Orphan
inside_at (Some run) token kind =
    if run.kind.n == kind.n then (if nat_lt 10000 (token.end - run.start) then Fault TooLong else Read (label.Inside kind)) else Fault Orphan

-- a type that is named, where annotations may have it
abbrev pub usable : Configuration → Option TypeId → Result TypeId ColumnWhat
usable conf None = Err UnknownType
usable conf (Some kind) = if is_barred_type conf kind then Err NotForUse else Ok kind

-- a label of a type that may be used
abbrev pub typed_at : Result TypeId ColumnWhat → (TypeId → Judged) → Judged
typed_at (Ok kind) found = found kind
typed_at (Err what) found = Fault what

-- a label of a form, with the name behind its hyphen, at a token
abbrev pub label_at : Configuration → Option Run → ℕ → Frag → LabelForm → List ℕ → Judged
label_at conf last count token form.Out name = Read label.Out
label_at conf last count token form.Begin name = typed_at (usable conf (type_named conf.types name)) (begin_at count token)
label_at conf last count token form.Inside name = typed_at (usable conf (type_named conf.types name)) (inside_at last token)

-- the same of what stands for the next token, where one is left
abbrev pub token_at : Configuration → List ℕ → Option Run → ℕ → Option Frag → List ℕ → LabelForm → List ℕ → Judged
token_at conf text last count None shown form name = Fault TooMany
token_at conf text last count (Some token) shown form name =
    if bytes_eq shown (token_text text token) then label_at conf last count token form name
    else Fault (WrongToken (first_differing shown (token_text text token)))

-- the same of a label that may have none of the forms
abbrev pub field_at : Configuration → List ℕ → Option Run → ℕ → Option Frag → List ℕ → List ℕ → Option LabelForm → Judged
field_at conf text last count token shown field None = Fault BadLine
field_at conf text last count token shown field (Some form) = token_at conf text last count token shown form (drop 2 field)

-- the same of what TABs separate
abbrev pub fields_at : Configuration → List ℕ → Option Run → ℕ → Option Frag → List (List ℕ) → Judged
fields_at conf text last count token (shown ∷ field ∷ []) = field_at conf text last count token shown field (form_of field)
fields_at conf text last count token _ = Fault BadLine

-- a line as the label of the next token, or its fault, behind these lines
unfoldable pub judged : Configuration → List ℕ → Option Run → ℕ → Option Frag → List ℕ → Judged
judged conf text last count token line = fields_at conf text last count token (slice_split (λ b. b == 9) line)

-- ---- all lines

-- a fault ends the reading, and behind a label it goes on
abbrev pub judged_then : ℕ → Judged → (Label → Result (List Tag) ColumnFault) → Result (List Tag) ColumnFault
judged_then number (Fault what) rest = Err (At number what)
judged_then number (Read label_) rest = rest label_

-- with a token more in front
abbrev pub with_tag : Tag → Result (List Tag) ColumnFault → Result (List Tag) ColumnFault
with_tag tag (Ok tags) = Ok (tag ∷ tags)
with_tag tag (Err fault) = Err fault

-- the tokens that are left with the labels that lines give them, the first line of this number and behind these tokens, or the first fault
abbrev pub read_from : Configuration → List ℕ → ℕ → List Tag → List Frag → List (List ℕ) → Result (List Tag) ColumnFault
read_from conf text number before [] [] = Ok []
read_from conf text number before (token ∷ tokens) [] = Err (At number TooFew)
read_from conf text number before [] (line ∷ more) =
    if is_blank line then read_from conf text (number + 1) before [] more
    else judged_then number (judged conf text (last_of before) (begun before) None line) (λ label_. Ok [])
read_from conf text number before (token ∷ tokens) (line ∷ more) =
    if is_blank line then read_from conf text (number + 1) before (token ∷ tokens) more
    else judged_then number (judged conf text (last_of before) (begun before) (Some token) line)
    (λ label_. let tag : Tag = record { token = token; label = label_ } in with_tag tag (read_from conf text (number + 1) (tag ∷ before) tokens more))

-- the tokens of a text with the labels that a file gives them, or its first fault
unfoldable pub read_of : Configuration → List ℕ → List ℕ → Result (List Tag) ColumnFault
read_of conf text bytes =
    if nat_lt (utf8_valid_len bytes) (length bytes)
    then Err (At (count_by (λ b. b == 10) (take (utf8_valid_len bytes) bytes) + 1) NotUtf8)
    else read_from conf text 1 [] (tokens_of text) (lines bytes)

-- what a refusal tells: the first fault, or want of memory
abbrev pub Tells : Result (List Tag) ColumnFault → ColumnFault → Type 0
Tells read (At line what) = read ≡ Err (At line what)
Tells read Memory = ⊤
