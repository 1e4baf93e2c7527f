-- Decimal numbers of at most nine digits, without a leading zero.
use Rattle.std.proofs.Common.{ℕ, ◌≤◌, ◌<◌, ◌^◌, ◌≡◌, ◌==◌, ◌&&◌, ◌||◌, Bool, true, false, not, cond, List, Result, Option, Some, None, Ok, length, decimal, get_or, slice_index, nat_lt, arith, refl, sym, ◌∙◌, ap, zero, suc}
use Rattle.std.specs.Result.{result_ok}
use Rattle.std.specs.Str.{all_ascii_digits, IsUtf8}
use Rattle.std.specs.Str.Parse.{digits_value, ParsesUnsigned}
use Rattle.std.proofs.lemmas.Bool.{and_parts, and_from, ltb-true, lt-ltb, eqb-true, eq-eqb, false≢true}
use Rattle.std.proofs.lemmas.Str.{IsUtf8-from_ascii}
use Rattle.std.proofs.lemmas.Str.Parse.{IsNumeralModel, numerals_by_value, tells_all_ascii_digits, digits_value_short, parse_gives}
use Rattle.std.proofs.lemmas.Fmt.{decimal-digits_value, digits_value-decimal, digits_decimal, decimal_nonempty, length-decimal-le, first_decimal, decimal_digit, IsAscii-from_digits}
use Rattle.mark_base.specs.AnnIds.{is_canonical, number_read}

own : IsNumeralModel (λ ds. all_ascii_digits ds ≡ true) (digits_value 10)
own = numerals_by_value (λ ds. all_ascii_digits ds ≡ true) tells_all_ascii_digits

-- what the test says
record Canonical (ds : List ℕ) : Type 0 where
  digits : all_ascii_digits ds ≡ true
  some : 0 < length ds
  few : length ds < 10
  leads : get_or ds 0 0 ≡ 48 → length ds ≡ 1

-- a leading zero stands alone
leads_well : (one none : Bool) → (one || not none) ≡ true → none ≡ true → one ≡ true
leads_well true none t z = refl
leads_well false true t z = t
leads_well false false t z = z

canonical : (ds : List ℕ) → is_canonical ds ≡ true → Canonical ds
canonical ds t =
    let abc = and_parts (nat_lt 0 (length ds) && nat_lt (length ds) 10 && all_ascii_digits ds) (length ds == 1 || not (slice_index ds 0 == 48)) t in
    let ab = and_parts (nat_lt 0 (length ds) && nat_lt (length ds) 10) (all_ascii_digits ds) abc.0 in
    let a = and_parts (nat_lt 0 (length ds)) (nat_lt (length ds) 10) ab.0 in
    record {
      digits = ab.1;
      some = ltb-true 0 (length ds) a.0;
      few = ltb-true (length ds) 10 a.1;
      leads = λ e. eqb-true (length ds) 1 (leads_well (length ds == 1) (slice_index ds 0 == 48) abc.1 (eq-eqb (slice_index ds 0) 48 e));
    }

-- such digits are text
pub canonical_utf8 : (ds : List ℕ) → is_canonical ds ≡ true → IsUtf8 ds
canonical_utf8 ds t = IsUtf8-from_ascii ds (IsAscii-from_digits ds (own.to ds (canonical ds t).digits))

-- `parse` reads them
pub canonical_reads : {E : Type 0} (ds : List ℕ) (r : Result ℕ E) → is_canonical ds ≡ true → ParsesUnsigned 32 10 ds r → r ≡ Ok (digits_value 10 ds)
canonical_reads ds r t p =
    let k = canonical ds t in
    let small : digits_value 10 ds < 10 ^ 9 = digits_value_short own ds 9 k.digits (omega arith) in
    parse_gives own 32 ds r p k.digits k.some (omega arith)

-- and they are the spelling of their number
pub canonical_spells : (ds : List ℕ) → is_canonical ds ≡ true → (ds ≡ decimal (digits_value 10 ds)) × (digits_value 10 ds ≤ 999999999)
canonical_spells ds t =
    let k = canonical ds t in
    let small : digits_value 10 ds < 10 ^ 9 = digits_value_short own ds 9 k.digits (omega arith) in
    (sym (decimal-digits_value own ds k.digits k.some k.leads (omega arith)), omega arith)

leads_from : (one none : Bool) → (none ≡ true → one ≡ true) → (one || not none) ≡ true
leads_from true none h = refl
leads_from false true h = h refl
leads_from false false h = refl

-- a number that begins with 0 is 0
leads_decimal : (n : ℕ) → n < 2 ^ 64 → get_or (decimal n) 0 0 ≡ 48 → length (decimal n) ≡ 1
leads_decimal zero fits e = ap length (decimal_digit 0 (omega arith))
leads_decimal (suc n) fits e = absurd (omega (arith, first_decimal (suc n) (omega arith) fits))

-- the spelling of a number has that form
pub decimal_canonical : (n : ℕ) → n ≤ 999999999 → is_canonical (decimal n) ≡ true
decimal_canonical n small =
    let fits : n < 2 ^ 64 = omega arith in
    let some : 0 < length (decimal n) = decimal_nonempty n fits in
    let few : length (decimal n) ≤ 9 = length-decimal-le 9 n (omega arith) (omega arith) fits in
    let digits : all_ascii_digits (decimal n) ≡ true = digits_decimal own n fits in
    and_from (nat_lt 0 (length (decimal n)) && nat_lt (length (decimal n)) 10 && all_ascii_digits (decimal n)) (length (decimal n) == 1 || not (slice_index (decimal n) 0 == 48))
    (and_from (nat_lt 0 (length (decimal n)) && nat_lt (length (decimal n)) 10) (all_ascii_digits (decimal n))
    (and_from (nat_lt 0 (length (decimal n))) (nat_lt (length (decimal n)) 10) (lt-ltb 0 (length (decimal n)) some) (lt-ltb (length (decimal n)) 10 (omega arith)))
    digits)
    (leads_from (length (decimal n) == 1) (slice_index (decimal n) 0 == 48)
    (λ z. eq-eqb (length (decimal n)) 1 (leads_decimal n fits (eqb-true (slice_index (decimal n) 0) 48 z))))

-- other digits spell no number
pub not_canonical : (ds : List ℕ) → is_canonical ds ≡ false → (n : ℕ) → n ≤ 999999999 → ds ≡ decimal n → ⊥
not_canonical ds f n small e = false≢true (sym f ∙ ap is_canonical e ∙ decimal_canonical n small)

-- what `parse` makes of a text of such digits
pub canonical_parsed : {E : Type 0} (ds text : List ℕ) (r : Result ℕ E) (o : Option ℕ)
    → is_canonical ds ≡ true → text ≡ ds → ParsesUnsigned 32 10 text r → o ≡ result_ok r → o ≡ Some (digits_value 10 ds)
canonical_parsed ds text r o t same p is = is ∙ ap result_ok (canonical_reads ds r t (rw same at p))

-- such digits are read
pub canonical_read : (ds : List ℕ) → is_canonical ds ≡ true → number_read ds ≡ Some (digits_value 10 ds)
canonical_read ds t = ap (λ b. cond b (Some (digits_value 10 ds)) None) t

-- the spelling of a number is read as it
pub number_read_back : (n : ℕ) → n ≤ 999999999 → number_read (decimal n) ≡ Some n
number_read_back n small = canonical_read (decimal n) (decimal_canonical n small) ∙ ap Some (digits_value-decimal own n (omega arith))
