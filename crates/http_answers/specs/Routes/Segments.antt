-- The segments of a path, and what they name (RFC 3986, section 3.3).
use Rattle.std.specs.Prelude.{ℕ, ◌==◌, ◌&&◌, Bool, List, length, nat_lt, nat_le, slice_get, Option, Some, None, is_none, option_and_then, if◌then◌else◌}
use Rattle.std.specs.List.{slice_split}
use Rattle.std.specs.Str.{all_ascii_digits}
use Rattle.std.specs.Str.Parse.{digits_value}
use Rattle.mark_base.specs.Names.{slug_fault}

-- what slashes separate; before the first slash stands an empty segment
abbrev pub segments : List ℕ → List (List ℕ)
segments path = slice_split (λ byte. byte == 47) path

-- the slug that a segment is
abbrev pub slug_read : List ℕ → Option (List ℕ)
slug_read text = if is_none (slug_fault text) then Some text else None

-- 1 to 18 decimal digits, of which the first may be 0
abbrev pub is_number : List ℕ → Bool
is_number digits = nat_lt 0 (length digits) && nat_le (length digits) 18 && all_ascii_digits digits

-- the number that a segment is
abbrev pub number_read : List ℕ → Option ℕ
number_read digits = if is_number digits then Some (digits_value 10 digits) else None

-- the slug that the segment at a place is
abbrev pub slug_at : List (List ℕ) → ℕ → Option (List ℕ)
slug_at pieces place = option_and_then slug_read (slice_get pieces place)

-- the number that the segment at a place is
abbrev pub number_at : List (List ℕ) → ℕ → Option ℕ
number_at pieces place = option_and_then number_read (slice_get pieces place)
