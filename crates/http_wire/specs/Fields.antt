-- What the fields of a head say (RFC 9110, sections 5, 7.6.1 and 8.6). A field is its name and its
-- value without the spaces and tabs around it.
use Rattle.std.specs.Prelude.{ℕ, ◌==◌, Bool, not, ◌&&◌, ◌||◌, List, [], ◌∷◌, length, nat_lt, nat_le, if◌then◌else◌, Option, Some, None, option_map, option_and_then, is_some, is_none, unwrap_or, Result, Ok, Err, codes, bytes_eq}
use Rattle.std.specs.List.{list_any, slice_split}
use Rattle.std.specs.Str.{str_eq_ignore_ascii_case, all_ascii_digits, is_utf8}
use Rattle.std.specs.Str.Parse.{digits_value}
use Rattle.httparse.specs.Grammar.{trim_ows}
use Rattle.http_wire.specs.declared.stop.Stop.{Stop}
use Rattle.http_wire.specs.declared.stop.Stop.TheVariants.{BadHead, TooLarge, Encoded, NeedsLength}

-- names compare without case
abbrev pub is_named : List ℕ → List ℕ × List ℕ → Bool
is_named name field = str_eq_ignore_ascii_case field.0 name

-- the value of the first field of this name
abbrev pub first_value : List ℕ → List (List ℕ × List ℕ) → Option (List ℕ)
first_value name [] = None
first_value name (field ∷ fields) = if is_named name field then Some field.1 else first_value name fields

-- the length of a body is 1 to 18 decimal digits
abbrev pub is_length : List ℕ → Bool
is_length value = nat_lt 0 (length value) && nat_le (length value) 18 && all_ascii_digits value

-- the number of the first field Content-Length
abbrev pub declared_length : List (List ℕ × List ℕ) → Option ℕ
declared_length fields = option_map (digits_value 10) (first_value (codes "content-length") fields)

-- a field Content-Length that is no length, or another number than this one
abbrev pub is_other_length : ℕ → List ℕ × List ℕ → Bool
is_other_length number field =
    is_named (codes "content-length") field && not (is_length field.1 && (digits_value 10 field.1 == number))

-- some Content-Length is no length, or two of them differ
abbrev pub has_bad_length : List (List ℕ × List ℕ) → Bool
has_bad_length fields = list_any (is_other_length (unwrap_or (declared_length fields) 0)) fields

-- how many bytes of body a head with this method and these fields has, or the first fault of the head
abbrev pub body_size : List ℕ → List (List ℕ × List ℕ) → Result ℕ Stop
body_size method fields =
    if has_bad_length fields then Err BadHead
    else (if nat_lt 64 (length fields) || nat_lt 4194304 (unwrap_or (declared_length fields) 0) then Err TooLarge
    else (if is_some (first_value (codes "transfer-encoding") fields) then Err Encoded
    else (if bytes_eq method (codes "PUT") && is_none (declared_length fields) then Err NeedsLength
    else Ok (unwrap_or (declared_length fields) 0))))

-- one of the words of the value, which commas separate, is this one, without case
abbrev pub has_word : List ℕ → List ℕ → Bool
has_word word value =
    list_any (λ piece. str_eq_ignore_ascii_case (trim_ows piece) word) (slice_split (λ byte. byte == 44) value)

-- a field Connection that has the word close
abbrev pub is_close : List ℕ × List ℕ → Bool
is_close field = is_named (codes "connection") field && has_word (codes "close") field.1

-- some field Connection has the word close
abbrev pub asks_to_close : List (List ℕ × List ℕ) → Bool
asks_to_close fields = list_any is_close fields

-- the value where it is UTF-8
abbrev pub text_value : List ℕ → Option (List ℕ)
text_value value = if is_utf8 value then Some value else None

-- who asks: the value of the first field Caller, where it is a text
abbrev pub caller_of : List (List ℕ × List ℕ) → Option (List ℕ)
caller_of fields = option_and_then text_value (first_value (codes "caller") fields)
