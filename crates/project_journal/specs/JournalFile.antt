-- What the bytes of a journal stand for: a header of 16 bytes, records behind open gates, and a closed gate.
-- A record is a gate byte, the payload's length in four bytes, and the payload. A gate is open exactly where it is 1.
use Rattle.std.specs.Prelude.{ℕ, zero, suc, ◌+◌, nat_lt, nat_le, nat_eq, Bool, false, ◌&&◌, ◌||◌, if◌then◌else◌, List, [], ◌∷◌, ◌++◌, length, take, drop, bytes_eq, Option, Some, None, is_none, option_map}
use Rattle.std.specs.Option.{option_map_or}
use Rattle.std.specs.Int.{w32, to_le_bytes, from_le_bytes}

-- a number below 2 ^ 32 as four bytes, the low one first
unfoldable pub bytes_of : ℕ → List ℕ
bytes_of n = to_le_bytes w32 n

-- the number that four bytes spell, the low one first
unfoldable pub number_of : List ℕ → ℕ
number_of bytes = from_le_bytes w32 bytes

-- the bytes `ANNOBOOK`, with which a journal begins
abbrev pub mark : List ℕ
mark = 65 ∷ 78 ∷ 78 ∷ 79 ∷ 66 ∷ 79 ∷ 79 ∷ 75 ∷ []

-- the rest of the header of a new file: its version and four bytes that no reader tests
abbrev pub version_bytes : ℕ → List ℕ
version_bytes version = version ∷ 0 ∷ 0 ∷ 0 ∷ 0 ∷ 0 ∷ 0 ∷ 0 ∷ []

-- the length and the payload of an entry's record
abbrev pub record_of : List ℕ → List ℕ
record_of entry = bytes_of (length entry) ++ entry

-- the records of these entries, each behind an open gate
abbrev pub records : List (List ℕ) → List ℕ
records [] = []
records (entry ∷ entries) = 1 ∷ record_of entry ++ records entries

-- a new file of that version and these entries, up to its last gate
abbrev pub new_front : ℕ → List (List ℕ) → List ℕ
new_front version entries = (mark ++ version_bytes version) ++ records entries

-- a new file of that version and these entries
abbrev pub new_file : ℕ → List (List ℕ) → List ℕ
new_file version entries = new_front version entries ++ 0 ∷ []

-- the first n bytes as a payload, and what stands behind it, where n is a length that an entry has and a byte is left for the next gate
abbrev pub payload_of : ℕ → List ℕ → Option (List ℕ × List ℕ)
payload_of n rest = if nat_le 1 n && nat_le n 16777216 && nat_lt n (length rest) then Some (take n rest, drop n rest) else None

-- the payload of a whole record, and what stands behind it
unfoldable pub whole_record : List ℕ → Option (List ℕ × List ℕ)
whole_record bytes = payload_of (number_of (take 4 bytes)) (drop 4 bytes)

-- whether the next gate is open
abbrev pub is_open : List ℕ → Bool
is_open [] = false
is_open (gate ∷ bytes) = nat_eq gate 1

-- the payload of a whole record behind an open gate, and what stands behind it
abbrev pub open_record : List ℕ → Option (List ℕ × List ℕ)
open_record [] = None
open_record (gate ∷ bytes) = if nat_eq gate 1 then whole_record bytes else None

-- the payloads of the records behind open gates, up to the first gate that is closed; at most so many
abbrev pub entries_on : ℕ → List ℕ → List (List ℕ)
entries_on zero bytes = []
entries_on (suc more) bytes = option_map_or (λ it. it.0 ∷ entries_on more it.1) (open_record bytes) []

-- the number, from 1, of the first record that is not whole behind its open gate; of at most so many
abbrev pub damage_on : ℕ → List ℕ → Option ℕ
damage_on zero bytes = None
damage_on (suc more) bytes =
    option_map_or (λ it. option_map (λ k. k + 1) (damage_on more it.1)) (open_record bytes) (if is_open bytes then Some 1 else None)

-- whether a file is a journal, of any version: it has the mark, and room for the header and a gate
abbrev pub is_journal : List ℕ → Bool
is_journal file = nat_le 17 (length file) && bytes_eq mark (take 8 file)

-- the version that a header names
abbrev pub version : List ℕ → ℕ
version file = number_of (take 4 (drop 8 file))

-- whether it is a version that is read here
abbrev pub is_known : ℕ → Bool
is_known version = nat_eq version 1 || nat_eq version 2

-- the entries of a journal: the payloads behind open gates, up to the first closed one
abbrev pub entries : List ℕ → List (List ℕ)
entries file = entries_on (length file) (drop 16 file)

-- the number, from 1, of a journal's first damaged record
abbrev pub damage : List ℕ → Option ℕ
damage file = damage_on (length file) (drop 16 file)

-- the entries, where the file is a journal of a known version with no damage
abbrev pub opened_if : Bool → ℕ → Option ℕ → List (List ℕ) → Option (List (List ℕ))
opened_if is_journal version damage entries = if is_journal && is_known version && is_none damage then Some entries else None

-- the entries of a file that opens
unfoldable pub opened : List ℕ → Option (List (List ℕ))
opened file = opened_if (is_journal file) (version file) (damage file) (entries file)
