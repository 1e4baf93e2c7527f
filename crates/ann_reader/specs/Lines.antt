-- The lines of an .ann file, and the fields of a line (brat standoff manual, "General annotation structure").
use Rattle.std.specs.Prelude.{ℕ, ◌+◌, ◌-◌, ◌==◌, ◌||◌, Bool, List, [], ◌∷◌, length, take, slice_index, if◌then◌else◌}
use Rattle.std.specs.List.{list_any, list_all, before_first, after_first, slice_split, suffix_len}

-- a space, a TAB or a carriage return
abbrev pub is_blank_byte : ℕ → Bool
is_blank_byte b = b == 32 || b == 9 || b == 13

-- a line that is passed over
abbrev pub is_blank : List ℕ → Bool
is_blank bytes = list_all is_blank_byte bytes

-- a line by its number, from 1, and its bytes without the line feed
pub record Line : Type 0 where
  pub number : ℕ
  pub bytes : List ℕ

-- the lines that are not blank among some of which the first has this number
abbrev pub lines_from : ℕ → List (List ℕ) → List Line
lines_from number [] = []
lines_from number (bytes ∷ more) =
    if is_blank bytes then lines_from (number + 1) more else record { number = number; bytes = bytes } ∷ lines_from (number + 1) more

-- the lines of a file that are not blank; a line feed ends each, and the last may lack it
unfoldable pub lines_of : List ℕ → List Line
lines_of bytes = lines_from 1 (slice_split (λ b. b == 10) bytes)

-- ---- fields

-- a TAB stands in the line
abbrev pub has_tab : List ℕ → Bool
has_tab bytes = list_any (λ b. b == 9) bytes

-- what stands before the first TAB, or all where there is none
abbrev pub first_field : List ℕ → List ℕ
first_field bytes = before_first (λ b. b == 9) bytes

-- what stands behind the first TAB
abbrev pub behind_tab : List ℕ → List ℕ
behind_tab bytes = after_first (λ b. b == 9) bytes

-- ---- what is dropped at the end

-- a space or a TAB
abbrev pub is_gap : ℕ → Bool
is_gap b = b == 32 || b == 9

-- without the spaces and TABs at the end
abbrev pub without_gap : List ℕ → List ℕ
without_gap bytes = take (length bytes - suffix_len is_gap bytes) bytes

-- without one carriage return at the end
abbrev pub without_return : List ℕ → List ℕ
without_return bytes = if slice_index bytes (length bytes - 1) == 13 then take (length bytes - 1) bytes else bytes

-- without the spaces and TABs at the end, and at most one carriage return among them
abbrev pub without_end : List ℕ → List ℕ
without_end bytes = without_gap (without_return (without_gap bytes))
