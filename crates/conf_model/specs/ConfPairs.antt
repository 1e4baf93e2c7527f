-- What stands behind a name: pairs of a role, a mark and alternatives (brat configuration manual, "Event definitions" and "Relation definitions").
use Rattle.std.specs.Prelude.{ℕ, ◌==◌, ◌||◌, ◌&&◌, Bool, not, List, [], ◌∷◌, length, drop, nat_lt, nat_le, Option, Some, None, encode_utf8_all, if◌then◌else◌, map}
use Rattle.std.specs.Str.{skip_leading_whitespace}
use Rattle.std.specs.Str.Parse.{digits_value}
use Rattle.std.specs.List.{list_any, before_first, after_first, slice_split, position_or_len}
use Rattle.mark_base.specs.AnnIds.{is_canonical}
use Rattle.conf_model.specs.ConfLines.{is_enclosed, enclosed}

-- an alternative: a type by its name, or a macro by the name in its brackets
pub data Alternative : Type 0 where
  Named : List ℕ → Alternative
  Held : List ℕ → Alternative

-- a piece of a list of pairs: one without `:`, one with a bracketed key, or a role with its mark and its alternatives
pub data Piece : Type 0 where
  Shapeless : Piece
  Keyed : List ℕ → List ℕ → Piece
  Pair : List ℕ → List ℕ → List Alternative → Piece

-- an alternative by its characters: a macro stands in angle brackets
abbrev pub alternative_of : List ℕ → Alternative
alternative_of cs = if is_enclosed 60 62 cs then Held (encode_utf8_all (enclosed cs)) else Named (encode_utf8_all cs)

-- the alternatives that `|` separates
abbrev pub alternatives_of : List ℕ → List Alternative
alternatives_of cs = map alternative_of (slice_split (λ c. c == 124) cs)

-- where a mark begins: at `?`, `*`, `+` or `{`
abbrev pub begins_mark : ℕ → Bool
begins_mark c = c == 63 || c == 42 || c == 43 || c == 123

-- a piece by its characters, split at its first `:`
abbrev pub piece_of : List ℕ → Piece
piece_of cs =
    let key = before_first (λ c. c == 58) cs in
    let value = after_first (λ c. c == 58) cs in
    if not (list_any (λ c. c == 58) cs) then Shapeless
    else if is_enclosed 60 62 key then Keyed (encode_utf8_all (enclosed key)) value
    else Pair (encode_utf8_all (before_first begins_mark key)) (drop (position_or_len begins_mark key) key) (alternatives_of value)

-- the pieces behind a name: none where only white space follows, else those that `,` separates, each without the white space before it
abbrev pub pieces_of : List ℕ → List Piece
pieces_of cs =
    if length (skip_leading_whitespace cs) == 0 then []
    else map (λ piece. piece_of (skip_leading_whitespace piece)) (slice_split (λ c. c == 44) cs)

-- a number of 0 to 99 without a leading zero
abbrev pub number_of : List ℕ → Option ℕ
number_of cs = if is_canonical cs && nat_lt (length cs) 3 then Some (digits_value 10 cs) else None

-- how often a role may be filled: at least and at most so often
pub record Count : Type 0 where
  pub least : ℕ
  pub most : ℕ

-- a count in braces, where it is one
abbrev pub range_of : Option ℕ → Option ℕ → Option Count
range_of None _ = None
range_of (Some least) None = None
range_of (Some least) (Some most) = if nat_le least most && nat_lt 0 most then Some (record { least = least; most = most }) else None

-- the count that a mark stands for: none is exactly one, `?` at most one, `*` any number, `+` at least one, `{N}` and `{N-M}`
abbrev pub count_of : List ℕ → Option Count
count_of [] = Some (record { least = 1; most = 1 })
count_of (c ∷ []) =
    if c == 63 then Some (record { least = 0; most = 1 }) else if c == 42 then Some (record { least = 0; most = 4294967295 })
    else if c == 43 then Some (record { least = 1; most = 4294967295 }) else None
count_of (c ∷ d ∷ cs) =
    let mark = c ∷ d ∷ cs in
    let inside = enclosed mark in
    if not (is_enclosed 123 125 mark) then None
    else if list_any (λ e. e == 45) inside then range_of (number_of (before_first (λ e. e == 45) inside)) (number_of (after_first (λ e. e == 45) inside))
    else range_of (number_of inside) (number_of inside)
