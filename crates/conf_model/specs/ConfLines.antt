-- The lines of annotation.conf: which count, and in which section each stands (brat configuration manual, "Configuration sections").
use Rattle.std.specs.Prelude.{ℕ, ◌+◌, ◌-◌, ◌==◌, ◌||◌, ◌&&◌, Bool, List, [], ◌∷◌, length, take, drop, slice_index, nat_lt, Option, Some, None, bytes_eq, codes, chars, encode_utf8_all, if◌then◌else◌}
use Rattle.std.specs.Char.{is_whitespace}
use Rattle.std.specs.Str.{skip_leading_whitespace}
use Rattle.std.specs.Str.Lines.{lines}
use Rattle.std.specs.List.{list_all, before_first, after_first}

-- the four sections
pub data Section : Type 0 where
  Entities : Section
  Relations : Section
  Events : Section
  Attributes : Section

-- where a line stands: before the first section line, behind one that names no section, or in a section
pub data Place : Type 0 where
  Before : Place
  Nowhere : Place
  Within : Section → Place

-- a line: one that is passed over, a section line, a macro by its name and its alternatives, or any other by its characters
pub data Kind : Type 0 where
  Skipped : Kind
  Header : Option Section → Kind
  Macro : List ℕ → List ℕ → Kind
  Content : List ℕ → Kind

-- a line by its number, from 1, its place and its kind
pub record Line : Type 0 where
  pub number : ℕ
  pub place : Place
  pub kind : Kind

-- hyphens only
abbrev pub is_hyphens : List ℕ → Bool
is_hyphens cs = nat_lt 0 (length cs) && list_all (λ c. c == 45) cs

-- a line that is passed over: blank, a comment, or hyphens only
abbrev pub is_skipped : List ℕ → Bool
is_skipped cs = list_all is_whitespace cs || slice_index (skip_leading_whitespace cs) 0 == 35 || is_hyphens cs

-- the characters begin and end with these
abbrev pub is_enclosed : ℕ → ℕ → List ℕ → Bool
is_enclosed open_by closed_by cs = nat_lt 1 (length cs) && slice_index cs 0 == open_by && slice_index cs (length cs - 1) == closed_by

-- what stands between the first and the last character
abbrev pub enclosed : List ℕ → List ℕ
enclosed cs = take (length cs - 2) (drop 1 cs)

-- the section of a bracketed word
abbrev pub section_named : List ℕ → Option Section
section_named word =
    if bytes_eq word (codes "entities") then Some Entities else if bytes_eq word (codes "relations") then Some Relations
    else if bytes_eq word (codes "events") then Some Events else if bytes_eq word (codes "attributes") then Some Attributes else None

-- a macro line: `<`, a name, `>` and at once `=`
abbrev pub is_macro : List ℕ → Bool
is_macro cs = slice_index cs 0 == 60 && slice_index (after_first (λ c. c == 62) cs) 0 == 61

-- the kind of a line by its characters
abbrev pub kind_of : List ℕ → Kind
kind_of cs =
    if is_skipped cs then Skipped
    else if is_enclosed 91 93 cs then Header (section_named (enclosed cs))
    else if is_macro cs then Macro (encode_utf8_all (drop 1 (before_first (λ c. c == 62) cs))) (drop 1 (after_first (λ c. c == 62) cs))
    else Content cs

-- the place of a line of a kind, behind a line of this place
abbrev pub place_after : Place → Kind → Place
place_after place (Header (Some section)) = Within section
place_after place (Header None) = Nowhere
place_after place Skipped = place
place_after place (Macro _ _) = place
place_after place (Content _) = place

-- the lines from a number on, of which the first stands behind a line of this place
abbrev pub lines_from : ℕ → Place → List (List ℕ) → List Line
lines_from number place [] = []
lines_from number place (bytes ∷ more) =
    let kind = kind_of (chars bytes) in
    let here = place_after place kind in
    record { number = number; place = here; kind = kind } ∷ lines_from (number + 1) here more

-- the lines of a file
abbrev pub file_lines : List ℕ → List Line
file_lines bytes = lines_from 1 Before (lines bytes)
