-- How a type, a role, an attribute or a value is named, and how a person or a document is.
use Rattle.std.specs.Prelude.{◌≡◌, ℕ, ◌==◌, ◌||◌, Bool, not, List, length, nat_lt, Option, Some, option_map, position, slice_index, if◌then◌else◌, ⊤}
use Rattle.std.specs.Char.{is_whitespace, is_control, is_ascii_alphanumeric}
use Rattle.std.specs.Str.{chars}
use Rattle.mark_base.specs.declared.name.NameFault.{NameFault}
use Rattle.mark_base.specs.declared.name.NameFault.TheVariants.{Empty, TooLong, BadChar, Memory}

-- the punctuation that annotation.conf and .ann lines give a meaning: ! # * + , : ; < > ? { | }
abbrev pub is_mark : ℕ → Bool
is_mark c =
    c == 33 || c == 35 || c == 42 || c == 43 || c == 44 || c == 58 || c == 59 || c == 60 || c == 62 || c == 63 || c == 123
    || c == 124 || c == 125

-- a character that stands in no name
abbrev pub is_barred : ℕ → Bool
is_barred c = is_whitespace c || is_control c || is_mark c

-- a character that stands in no slug: all but the ASCII letters and digits, `_`, `-` and `.`
abbrev pub is_barred_in_slug : ℕ → Bool
is_barred_in_slug c = not (is_ascii_alphanumeric c || c == 95 || c == 45 || c == 46)

-- the first fault of 1 to 64 characters, the first that may not stand being at this place
abbrev pub spelling_fault : List ℕ → Option ℕ → Option NameFault
spelling_fault cs bad =
    if length cs == 0 then Some Empty else if nat_lt 64 (length cs) then Some TooLong else option_map BadChar bad

-- the first fault of a text as a name: a name has 1 to 64 characters, none of which is barred
unfoldable pub name_fault : List ℕ → Option NameFault
name_fault text = spelling_fault (chars text) (position is_barred (chars text))

-- the place of the first character of a text that may not stand in a slug; a dot may not stand at its start
abbrev pub bad_in_slug : List ℕ → Option ℕ
bad_in_slug text = if slice_index text 0 == 46 then Some 0 else position is_barred_in_slug (chars text)

-- the first fault of a text as a slug: a slug has 1 to 64 ASCII letters, digits, `_`, `-` and `.`, and no dot at its start
unfoldable pub slug_fault : List ℕ → Option NameFault
slug_fault text = spelling_fault (chars text) (bad_in_slug text)

-- what a refusal says: the first fault of the text, or want of memory
abbrev pub IsRefusal : Option NameFault → NameFault → Type 0
IsRefusal fault Memory = ⊤
IsRefusal fault told = fault ≡ Some told
