-- What `parse` makes of a word of decimal digits.
use Rattle.std.proofs.Common.{◌≡◌, ℕ, ◌<◌, ◌^◌, ◌&&◌, Bool, true, false, cond, List, Option, Some, None, Result, Ok, Err, length, nat_lt, arith, refl, sym, ap, ◌∙◌}
use Rattle.std.specs.Result.{OkIff, result_ok}
use Rattle.std.specs.Str.{all_ascii_digits}
use Rattle.std.specs.Str.Parse.{digits_value, ParsesUnsigned}
use Rattle.std.proofs.lemmas.Bool.{and_parts, and_from, ltb-true, lt-ltb}
use Rattle.std.proofs.lemmas.Str.Parse.{IsNumeralModel, numerals_by_value, parse_digits, tells_all_ascii_digits}
use Rattle.command_words.specs.Asked.{is_number, number_read}

own : IsNumeralModel (λ ds. all_ascii_digits ds ≡ true) (digits_value 10)
own = numerals_by_value (λ ds. all_ascii_digits ds ≡ true) tells_all_ascii_digits

is_some : (ds : List ℕ) → all_ascii_digits ds ≡ true → 0 < length ds → digits_value 10 ds < 4294967296 → is_number ds ≡ true
is_some ds digits some small =
    and_from (all_ascii_digits ds) (nat_lt 0 (length ds) && nat_lt (digits_value 10 ds) 4294967296) digits
    (and_from (nat_lt 0 (length ds)) (nat_lt (digits_value 10 ds) 4294967296) (lt-ltb 0 (length ds) some) (lt-ltb (digits_value 10 ds) 4294967296 small))

-- a word that is a number has digits, and they spell a small one
parts : (ds : List ℕ) → is_number ds ≡ true → (0 < length ds) × (digits_value 10 ds < 4294967296)
parts ds is =
    let both = and_parts (all_ascii_digits ds) (nat_lt 0 (length ds) && nat_lt (digits_value 10 ds) 4294967296) is in
    let rest = and_parts (nat_lt 0 (length ds)) (nat_lt (digits_value 10 ds) 4294967296) both.1 in
    (ltb-true 0 (length ds) rest.0, ltb-true (digits_value 10 ds) 4294967296 rest.1)

read_none : (ds : List ℕ) (b : Bool) → is_number ds ≡ b → (is_number ds ≡ true → ⊥) → None ≡ number_read ds
read_none ds true is not = absurd (not is)
read_none ds false is not = sym (ap (λ t. cond t (Some (digits_value 10 ds)) None) is)

read_by : {E : Type 0} (ds : List ℕ) (r : Result ℕ E) → all_ascii_digits ds ≡ true → OkIff r ((0 < length ds) × (digits_value 10 ds < 2 ^ 32)) (digits_value 10 ds) → result_ok r ≡ number_read ds
read_by ds (Ok x) digits (fits, is) = ap Some is ∙ sym (ap (λ t. cond t (Some (digits_value 10 ds)) None) (is_some ds digits fits.0 fits.1))
read_by ds (Err e) digits not = read_none ds (is_number ds) refl (λ is. not (parts ds is))

-- a word of digits is read as its number
pub word_read : {E : Type 0} (ds : List ℕ) (r : Result ℕ E) (o : Option ℕ) → all_ascii_digits ds ≡ true → ParsesUnsigned 32 10 ds r → o ≡ result_ok r → o ≡ number_read ds
word_read ds r o digits parsed is = is ∙ read_by ds r digits (parse_digits own 32 ds r parsed digits)
