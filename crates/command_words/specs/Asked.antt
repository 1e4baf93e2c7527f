-- Which command the words are.
use Rattle.std.specs.Prelude.{◌≡◌, ◌≢◌, ◌⊎◌, ⊤, ℕ, ◌==◌, ◌||◌, ◌&&◌, Bool, List, [], ◌∷◌, if◌then◌else◌, Option, Some, None, is_none, option_and_then, option_map, bytes_eq, codes, length, nat_le, nat_lt, slice_index}
use Rattle.std.specs.Str.{all_ascii_digits}
use Rattle.std.specs.Str.Parse.{digits_value}
use Rattle.mark_base.specs.Names.{slug_fault}
use Rattle.command_words.specs.declared.asked.BookJob.{BookJob}
use Rattle.command_words.specs.declared.asked.BookJob.TheVariants as on
use Rattle.command_words.specs.declared.asked.Job.{Job}
use Rattle.command_words.specs.declared.asked.Job.TheVariants as job

-- a command that works on the project of a file and prints what it found, with the words behind its name; a level of 255 is none
pub data BookCommand : Type 0 where
  Found : (book conf roster : List ℕ) (level : ℕ) → BookCommand
  Add : (book caller name text : List ℕ) → BookCommand
  Import : (book who name ann : List ℕ) → BookCommand
  Export : (book who name : List ℕ) → BookCommand
  ColumnsOut : (book who name : List ℕ) → BookCommand
  Agree : (book : List ℕ) → BookCommand
  Scores : (book : List ℕ) → BookCommand
  Progress : (book : List ℕ) → BookCommand
  Snapshots : (book : List ℕ) → BookCommand
  Curated : (book : List ℕ) (number : ℕ) → BookCommand

-- a command, with the words behind its name
pub data Command : Type 0 where
  Help : Command
  Version : Command
  Try : (conf text : List ℕ) → Command
  Verify : (conf text ann : List ℕ) → Command
  ColumnsIn : (conf text columns : List ℕ) → Command
  Demo : (number : ℕ) → Command
  Session : (book : List ℕ) → Command
  Compact : (book made : List ℕ) → Command
  OnBook : BookCommand → Command

-- ---- words

-- a word that begins with a hyphen
abbrev pub has_hyphen : List ℕ → Bool
has_hyphen word = slice_index word 0 == 45

-- a word that names a person or a document
abbrev pub is_slug : List ℕ → Bool
is_slug word = is_none (slug_fault word)

-- a word of decimal digits whose number is below 2^32
abbrev pub is_number : List ℕ → Bool
is_number word = all_ascii_digits word && (nat_lt 0 (length word) && nat_lt (digits_value 10 word) 4294967296)

-- the number that a word spells; zeros may lead
abbrev pub number_read : List ℕ → Option ℕ
number_read word = if is_number word then Some (digits_value 10 word) else None

-- a number that is a level of the tree of types
abbrev pub level_of : ℕ → Option ℕ
level_of number = if nat_lt number 255 then Some number else None

-- ---- commands by the number of their words

-- a command of no word more
abbrev pub alone : (name : List ℕ) → Option Command
alone name = if bytes_eq name (codes "--help") then Some Help else if bytes_eq name (codes "--version") then Some Version else None

-- the session of this number
abbrev pub demo_of : Option ℕ → Option Command
demo_of number = option_map Demo number

-- commands of one word more
abbrev pub with_one : (name a : List ℕ) → Option Command
with_one name a =
    if bytes_eq name (codes "session") then Some (Session a)
    else if bytes_eq name (codes "agree") then Some (OnBook (Agree a))
    else if bytes_eq name (codes "scores") then Some (OnBook (Scores a))
    else if bytes_eq name (codes "progress") then Some (OnBook (Progress a))
    else if bytes_eq name (codes "snapshots") then Some (OnBook (Snapshots a))
    else if bytes_eq name (codes "demo") then demo_of (number_read a) else None

-- the curated layer of a snapshot of this number
abbrev pub curated_of : (book : List ℕ) → Option ℕ → Option Command
curated_of book number = option_map (λ it. OnBook (Curated book it)) number

-- another file that begins with the state of a project, by words that are two
abbrev pub compact_of : (book made : List ℕ) → Option Command
compact_of book made = if bytes_eq book made then None else Some (Compact book made)

-- commands of two words more
abbrev pub with_two : (name a b : List ℕ) → Option Command
with_two name a b =
    if bytes_eq name (codes "try") then Some (Try a b)
    else if bytes_eq name (codes "compact") then compact_of a b
    else if bytes_eq name (codes "curated") then curated_of a (number_read b) else None

-- the committed layer of an annotator on a document, by words that may name them
abbrev pub export_of : (book who name : List ℕ) → Option Command
export_of book who name = if is_slug who && is_slug name then Some (OnBook (Export book who name)) else None

-- the columns of the committed layer of an annotator on a document, by words that may name them
abbrev pub columns_of : (book who name : List ℕ) → Option Command
columns_of book who name = if is_slug who && is_slug name then Some (OnBook (ColumnsOut book who name)) else None

-- commands of three words more
abbrev pub with_three : (name a b c : List ℕ) → Option Command
with_three name a b c =
    if bytes_eq name (codes "verify") then Some (Verify a b c)
    else if bytes_eq name (codes "columns-in") then Some (ColumnsIn a b c)
    else if bytes_eq name (codes "found") then Some (OnBook (Found a b c 255))
    else if bytes_eq name (codes "export") then export_of a b c
    else if bytes_eq name (codes "columns-out") then columns_of a b c else None

-- a document more of a caller, by words that may name them
abbrev pub add_of : (book caller name text : List ℕ) → Option Command
add_of book caller name text = if is_slug caller && is_slug name then Some (OnBook (Add book caller name text)) else None

-- the layer of an .ann file for an annotator on a document, by words that may name them
abbrev pub import_of : (book who name ann : List ℕ) → Option Command
import_of book who name ann = if is_slug who && is_slug name then Some (OnBook (Import book who name ann)) else None

-- a project at this level
abbrev pub found_at : (book conf roster : List ℕ) → Option ℕ → Option Command
found_at book conf roster level = option_map (λ it. OnBook (Found book conf roster it)) level

-- commands of four words more
abbrev pub with_four : (name a b c d : List ℕ) → Option Command
with_four name a b c d =
    if bytes_eq name (codes "add") then add_of a b c d
    else if bytes_eq name (codes "import") then import_of a b c d
    else if bytes_eq name (codes "found-at") then found_at a b c (option_and_then level_of (number_read d)) else None

-- a command, unless one of its words begins with a hyphen
abbrev pub unless_hyphens : Bool → Option Command → Option Command
unless_hyphens hyphens command = if hyphens then None else command

-- the command that the words are; but for a single `--help` or `--version` a word that begins with a hyphen is none of a command
abbrev pub command_of : List (List ℕ) → Option Command
command_of (name ∷ []) = alone name
command_of (name ∷ a ∷ []) = unless_hyphens (has_hyphen a) (with_one name a)
command_of (name ∷ a ∷ b ∷ []) = unless_hyphens (has_hyphen a || has_hyphen b) (with_two name a b)
command_of (name ∷ a ∷ b ∷ c ∷ []) = unless_hyphens (has_hyphen a || has_hyphen b || has_hyphen c) (with_three name a b c)
command_of (name ∷ a ∷ b ∷ c ∷ d ∷ []) = unless_hyphens (has_hyphen a || has_hyphen b || has_hyphen c || has_hyphen d) (with_four name a b c d)
command_of words = None

-- ---- jobs

-- the command of a job on a project
abbrev pub book_command_in : BookJob → BookCommand
book_command_in (on.Found book conf roster level) = Found book.now conf.now roster.now level
book_command_in (on.Add book caller name text) = Add book.now caller name text.now
book_command_in (on.Import book who name ann) = Import book.now who name ann.now
book_command_in (on.Export book who name) = Export book.now who name
book_command_in (on.ColumnsOut book who name) = ColumnsOut book.now who name
book_command_in (on.Agree book) = Agree book.now
book_command_in (on.Scores book) = Scores book.now
book_command_in (on.Progress book) = Progress book.now
book_command_in (on.Snapshots book) = Snapshots book.now
book_command_in (on.Curated book number) = Curated book.now number

-- the command of a job
abbrev pub command_in : Job → Command
command_in job.Help = Help
command_in job.Version = Version
command_in (job.Try conf text) = Try conf.now text.now
command_in (job.Verify conf text ann) = Verify conf.now text.now ann.now
command_in (job.ColumnsIn conf text columns) = ColumnsIn conf.now text.now columns.now
command_in (job.Demo number) = Demo number
command_in (job.Session book) = Session book.now
command_in (job.Compact book made) = Compact book.now made.now
command_in (job.Book it) = OnBook (book_command_in it)

-- the file of the project on which a command works
abbrev pub file_in : BookCommand → List ℕ
file_in (Found book conf roster level) = book
file_in (Add book caller name text) = book
file_in (Import book who name ann) = book
file_in (Export book who name) = book
file_in (ColumnsOut book who name) = book
file_in (Agree book) = book
file_in (Scores book) = book
file_in (Progress book) = book
file_in (Snapshots book) = book
file_in (Curated book number) = book

-- a command that works on two files names two
abbrev pub NamesTwo : Option Command → Type 0
NamesTwo (Some (Compact book made)) = book ≢ made
NamesTwo other = ⊤

-- a file that a command on a project may change; the others are only read
abbrev pub IsChangedOn : BookCommand → List ℕ → Type 0
IsChangedOn (Found book conf roster level) name = name ≡ book
IsChangedOn (Add book caller named text) name = name ≡ book
IsChangedOn (Import book who named ann) name = name ≡ book
IsChangedOn (Export book who named) name = ⊥
IsChangedOn (ColumnsOut book who named) name = ⊥
IsChangedOn (Agree book) name = ⊥
IsChangedOn (Scores book) name = ⊥
IsChangedOn (Progress book) name = ⊥
IsChangedOn (Snapshots book) name = ⊥
IsChangedOn (Curated book number) name = ⊥

-- a file on a disk that the words' command may change
abbrev pub IsChangedBy : Option Command → List ℕ → Type 0
IsChangedBy (Some (Session book)) name = name ≡ book
IsChangedBy (Some (Compact book made)) name = name ≡ made
IsChangedBy (Some (OnBook it)) name = IsChangedOn it name
IsChangedBy other name = ⊥

-- a file that a command on a project makes where there is none
abbrev pub IsMadeOn : BookCommand → List ℕ → Type 0
IsMadeOn (Found book conf roster level) name = name ≡ book
IsMadeOn other name = ⊥
