-- Reading the fields of an entry from left to right: each is a value and the bytes behind it.
use Rattle.std.specs.Prelude.{ℕ, zero, suc, ◌==◌, ◌&&◌, Bool, List, [], ◌∷◌, length, take, drop, nat_lt, Option, Some, None, is_none, option_map, option_and_then, if◌then◌else◌}
use Rattle.std.specs.Int.{w32, w64, from_le_bytes}
use Rattle.std.specs.Str.{is_utf8}
use Rattle.mark_base.specs.Names.{slug_fault}
use Rattle.entry_bytes.specs.declared.person.Person.{Person}

infixl 10 ◌&◌
-- two fields, one behind the other
abbrev pub ◌&◌ : {A B : Type 0} → (List ℕ → Option (A × List ℕ)) → (List ℕ → Option (B × List ℕ)) → List ℕ → Option ((A × B) × List ℕ)
(first & second) bytes = option_and_then (λ x. option_map (λ y. ((x.0, y.0), y.1)) (second x.1)) (first bytes)

-- the same bytes behind what a value is made to
abbrev pub made : {A B : Type 0} → (A → B) → (List ℕ → Option (A × List ℕ)) → List ℕ → Option (B × List ℕ)
made of field bytes = option_map (λ x. (of x.0, x.1)) (field bytes)

-- a field whose value passes a test
abbrev pub passing : {A : Type 0} → (A → Bool) → (List ℕ → Option (A × List ℕ)) → List ℕ → Option (A × List ℕ)
passing test field bytes = option_and_then (λ x. if test x.0 then Some x else None) (field bytes)

-- so many bytes
abbrev pub front_at : ℕ → List ℕ → Option (List ℕ × List ℕ)
front_at n bytes = if nat_lt (length bytes) n then None else Some (take n bytes, drop n bytes)

-- one byte
abbrev pub byte_at : List ℕ → Option (ℕ × List ℕ)
byte_at [] = None
byte_at (byte ∷ bytes) = Some (byte, bytes)

-- one byte below a limit
unfoldable pub below_at : ℕ → List ℕ → Option (ℕ × List ℕ)
below_at limit bytes = passing (λ byte. nat_lt byte limit) byte_at bytes

-- a byte that is 1 for yes and 0 for no
unfoldable pub flag_at : List ℕ → Option (Bool × List ℕ)
flag_at bytes = made (λ byte. byte == 1) (below_at 2) bytes

-- a number in four bytes
unfoldable pub u32_at : List ℕ → Option (ℕ × List ℕ)
u32_at bytes = made (from_le_bytes w32) (front_at 4) bytes

-- a number in eight bytes
unfoldable pub u64_at : List ℕ → Option (ℕ × List ℕ)
u64_at bytes = made (from_le_bytes w64) (front_at 8) bytes

-- whether bytes are the spelling of a slug
abbrev pub is_slug : List ℕ → Bool
is_slug bytes = is_utf8 bytes && is_none (slug_fault bytes)

-- a slug behind its length
unfoldable pub slug_at : List ℕ → Option (List ℕ × List ℕ)
slug_at bytes = option_and_then (λ n. passing is_slug (front_at n.0) n.1) (byte_at bytes)

-- a text behind its length
unfoldable pub text_at : List ℕ → Option (List ℕ × List ℕ)
text_at bytes = option_and_then (λ n. passing is_utf8 (front_at n.0) n.1) (u32_at bytes)

-- a person of this role and name
abbrev pub person_of : Bool × List ℕ → Person
person_of fields = record { name = fields.1; curator = fields.0 }

-- a role and a name
unfoldable pub person_at : List ℕ → Option (Person × List ℕ)
person_at bytes = made person_of (flag_at & slug_at) bytes

-- so many people
unfoldable pub people_on : ℕ → List ℕ → Option (List Person × List ℕ)
people_on zero bytes = Some ([], bytes)
people_on (suc n) bytes = option_and_then (λ x. option_map (λ y. (x.0 ∷ y.0, y.1)) (people_on n x.1)) (person_at bytes)

-- people behind their number
unfoldable pub people_at : List ℕ → Option (List Person × List ℕ)
people_at bytes = option_and_then (λ n. people_on n.0 n.1) (byte_at bytes)

-- all bytes that are left
abbrev pub rest_at : List ℕ → Option (List ℕ × List ℕ)
rest_at bytes = Some (bytes, [])
