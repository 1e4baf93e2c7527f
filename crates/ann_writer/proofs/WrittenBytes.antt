-- Words and lines are UTF-8 where their parts are.
use Rattle.std.proofs.Common.{◌≡◌, ℕ, zero, suc, ◌<◌, ◌/◌, ◌%◌, ◌==◌, ◌+◌, true, false, List, [], ◌∷◌, nat_lt, decimal, slice_index, slice_get, Option, Some, None, IsUtf8, arith}
use Rattle.std.proofs.lemmas.Bool.{cond_both, and_parts, ltb-true}
use Rattle.std.proofs.lemmas.Str.{IsUtf8-nil, IsUtf8-append, IsUtf8-from_ascii}
use Rattle.std.specs.Fmt.{digits, digits_onto, digit_glyph}
use Rattle.std.specs.List.{AllByRecursion, flat_map, list_all}
use Rattle.mark_base.specs.declared.ann_id.Kind.{Kind}
use Rattle.mark_base.specs.declared.ann_id.Kind.TheVariants as letter
use Rattle.mark_base.specs.AnnIds.{letter_of, spelling_of}

-- ---- ASCII

abbrev AreAscii : List ℕ → Type 0
AreAscii bytes = AllByRecursion (λ b. b < 128) bytes

at : (bytes : List ℕ) → AreAscii bytes → (i : ℕ) → slice_index bytes i < 128
at [] all i = omega arith
at (b ∷ bytes) all zero = all.0
at (b ∷ bytes) all (suc i) = at bytes all.1 i

ascii_utf8 : (bytes : List ℕ) → AreAscii bytes → IsUtf8 bytes
ascii_utf8 bytes all = IsUtf8-from_ascii bytes (at bytes all)

tested : (bytes : List ℕ) → list_all (λ b. nat_lt b 128) bytes ≡ true → AreAscii bytes
tested [] e = tt
tested (b ∷ bytes) e = let both = and_parts (nat_lt b 128) (list_all (λ b. nat_lt b 128) bytes) e in (ltb-true b 128 both.0, tested bytes both.1)

-- bytes that are written out
pub plain_utf8 : (bytes : List ℕ) → list_all (λ b. nat_lt b 128) bytes ≡ true → IsUtf8 bytes
plain_utf8 bytes e = ascii_utf8 bytes (tested bytes e)

-- ---- numbers and IDs

digit : (n : ℕ) → digit_glyph false (n % 10) < 128
digit n = cond_both (nat_lt (n % 10) 10) (48 + n % 10) (87 + n % 10) (λ b. b < 128) (λ e. omega arith) (λ e. omega arith)

digits_ascii : (fuel n : ℕ) (behind : List ℕ) → AreAscii behind → AreAscii (digits_onto fuel 10 false n behind)
digits_ascii zero n behind all = all
digits_ascii (suc fuel) n behind all =
    cond_both (n / 10 == 0) (digit_glyph false (n % 10) ∷ behind) (digits_onto fuel 10 false (n / 10) (digit_glyph false (n % 10) ∷ behind)) AreAscii
    (λ e. (digit n, all)) (λ e. digits_ascii fuel (n / 10) (digit_glyph false (n % 10) ∷ behind) (digit n, all))

pub decimal_utf8 : (n : ℕ) → IsUtf8 (decimal n)
unfolding digits
decimal_utf8 n = ascii_utf8 (decimal n) (digits_ascii 64 n [] tt)

letter_ascii : (kind : Kind) → letter_of kind < 128
letter_ascii letter.Text = omega arith
letter_ascii letter.Event = omega arith
letter_ascii letter.Relation = omega arith
letter_ascii letter.Attribute = omega arith
letter_ascii letter.Legacy = omega arith
letter_ascii letter.Normal = omega arith
letter_ascii letter.Note = omega arith

pub spelling_utf8 : (kind : Kind) (n : ℕ) → IsUtf8 (spelling_of kind n)
spelling_utf8 kind n = IsUtf8-append (letter_of kind ∷ []) (decimal n) (ascii_utf8 (letter_of kind ∷ []) (letter_ascii kind, tt)) (decimal_utf8 n)

-- ---- lists

pub joined_utf8 : {X : Type 0} (bytes : X → List ℕ) (xs : List X) → AllByRecursion (λ x. IsUtf8 (bytes x)) xs → IsUtf8 (flat_map bytes xs)
joined_utf8 bytes [] all = IsUtf8-nil
joined_utf8 bytes (x ∷ xs) all = IsUtf8-append (bytes x) (flat_map bytes xs) all.0 (joined_utf8 bytes xs all.1)

-- what holds of each element, and of none, holds at each place
pub at_place : {X : Type 0} (P : X → Type 0) (xs : List X) → AllByRecursion P xs → (k : ℕ) (Q : Option X → Type 0) → Q None → ((x : X) → P x → Q (Some x)) → Q (slice_get xs k)
at_place P [] all k Q none some = none
at_place P (x ∷ xs) all zero Q none some = some x all.0
at_place P (x ∷ xs) all (suc k) Q none some = at_place P xs all.1 k Q none some
