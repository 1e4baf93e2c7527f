-- Words of lines: what no byte of a name, a number or an ID is.
use Rattle.std.proofs.Common.{◌≡◌, refl, ap, ℕ, suc, ◌<◌, ◌≤◌, ◌^◌, Bool, true, false, ◌||◌, ◌==◌, List, [], ◌∷◌, ◌++◌, length, slice_index, decimal, arith, IsUtf8, chars, ⊎_elim, encode_utf8_all}
use Rattle.std.proofs.lemmas.Bool.{or_from, or_parts, ne_eqb, cases_lt}
use Rattle.std.proofs.lemmas.Str.{encodes-chars, NoCharPasses-byte, length-le-encodes}
use Rattle.std.proofs.lemmas.Str.Parse.{IsNumeralModel, numerals_by_value, tells_all_ascii_digits}
use Rattle.std.proofs.lemmas.Fmt.{digits_decimal, decimal_nonempty}
use Rattle.std.specs.Str.{NonePass, all_ascii_digits}
use Rattle.std.specs.Str.Parse.{digits_value}
use Rattle.mark_base.specs.declared.ann_id.Kind.{Kind}
use Rattle.mark_base.specs.declared.ann_id.Kind.TheVariants as letter
use Rattle.mark_base.specs.AnnIds.{letter_of, spelling_of}
use Rattle.mark_base.specs.Names.{is_barred}
use Rattle.annotation_conf.proofs.Written.{IsWord}
use Rattle.annotation_conf.proofs.WrittenLists.{none-append, none_less, is_other}
use Rattle.annotation_conf.proofs.WrittenNames.{name_free, name_some}

-- a space, a TAB, a line feed or a carriage return
abbrev pub parts : ℕ → Bool
parts b = b == 32 || b == 9 || b == 10 || b == 13

-- a word that is not empty and that nothing parts
pub record IsPlain (word : List ℕ) : Type 0 where
  pub some : 0 < length word
  pub free : NonePass parts word

pub no_space : (word : List ℕ) → NonePass parts word → NonePass (λ b. b == 32) word
no_space word h = none_less parts (λ b. b == 32) (λ b e. (or_parts _ _ (or_parts _ _ (or_parts _ _ e).0).0).0) word h

pub no_tab : (word : List ℕ) → NonePass parts word → NonePass (λ b. b == 9) word
no_tab word h = none_less parts (λ b. b == 9) (λ b e. (or_parts _ _ (or_parts _ _ (or_parts _ _ e).0).0).1) word h

pub no_feed : (word : List ℕ) → NonePass parts word → NonePass (λ b. b == 10) word
no_feed word h = none_less parts (λ b. b == 10) (λ b e. (or_parts _ _ (or_parts _ _ e).0).1) word h

pub no_return : (word : List ℕ) → NonePass parts word → NonePass (λ b. b == 13) word
no_return word h = none_less parts (λ b. b == 13) (λ b e. (or_parts _ _ e).1) word h

pub longer : (xs ys : List ℕ) → 0 < length xs → 0 < length (xs ++ ys)
longer [] ys h = absurd (omega arith)
longer (x ∷ xs) ys h = omega arith

pub plain-append : (xs ys : List ℕ) → IsPlain xs → NonePass parts ys → IsPlain (xs ++ ys)
plain-append xs ys h free = record { some = longer xs ys h.some; free = none-append parts xs ys h.free free }

-- ---- names

none_indexed : (p : ℕ → Bool) (xs : List ℕ) → ((i : ℕ) → i < length xs → p (slice_index xs i) ≡ false) → NonePass p xs
none_indexed p [] h = tt
none_indexed p (x ∷ xs) h = (h 0 (omega arith), none_indexed p xs (λ i l. h (suc i) (omega arith)))

-- no byte of a text passes a test that no character of it passes, and no byte past ASCII
pub bytes_free : (p : ℕ → Bool) → ((b : ℕ) → 128 ≤ b → p b ≡ false) → (text : List ℕ) → IsUtf8 text → NonePass p (chars text) → NonePass p text
bytes_free p high text valid h =
    none_indexed p text (λ i l.
    ⊎_elim (λ low. NoCharPasses-byte p text i (chars text, encodes-chars text valid, h) l low) (λ far. high (slice_index text i) far) (cases_lt (slice_index text i) 128))

pub past_parts : (b : ℕ) → 128 ≤ b → parts b ≡ false
past_parts b far = or_from _ _ (or_from _ _ (or_from _ _ (ne_eqb b 32 (λ e. omega arith)) (ne_eqb b 9 (λ e. omega arith))) (ne_eqb b 10 (λ e. omega arith))) (ne_eqb b 13 (λ e. omega arith))

past_colon : (b : ℕ) → 128 ≤ b → (b == 58) ≡ false
past_colon b far = ne_eqb b 58 (λ e. omega arith)

name_parts : (c : ℕ) → is_barred c ≡ false → parts c ≡ false
name_parts c h = or_from _ _ (or_from _ _ (or_from _ _ (is_other is_barred 32 refl c h) (is_other is_barred 9 refl c h)) (is_other is_barred 10 refl c h)) (is_other is_barred 13 refl c h)

some_bytes : (word : List ℕ) → IsUtf8 word → 0 < length (chars word) → 0 < length word
some_bytes word valid h =
    let most : length (chars word) ≤ length (encode_utf8_all (chars word)) = length-le-encodes (chars word) in
    let same : length (encode_utf8_all (chars word)) ≡ length word = ap length (encodes-chars word valid) in
    omega arith

pub name_plain : (word : List ℕ) → IsWord word → IsPlain word
name_plain word h = record {
  some = some_bytes word h.valid (name_some word h);
  free = bytes_free parts past_parts word h.valid (none_less is_barred parts name_parts (chars word) (name_free word h));
}

pub name_colon : (word : List ℕ) → IsWord word → NonePass (λ b. b == 58) word
name_colon word h = bytes_free (λ b. b == 58) past_colon word h.valid (none_less is_barred (λ b. b == 58) (is_other is_barred 58 refl) (chars word) (name_free word h))

-- ---- numbers

pub own : IsNumeralModel (λ ds. all_ascii_digits ds ≡ true) (digits_value 10)
own = numerals_by_value (λ ds. all_ascii_digits ds ≡ true) tells_all_ascii_digits

pub digits_none : (p : ℕ → Bool) → ((b : ℕ) → 48 ≤ b → b ≤ 57 → p b ≡ false) → (ds : List ℕ) → all_ascii_digits ds ≡ true → NonePass p ds
digits_none p other [] h = tt
digits_none p other (d ∷ ds) h = let both = tells_all_ascii_digits.parts d ds h in (other d both.0.0 both.0.1, digits_none p other ds both.1)

-- no digit of a number passes a test that digits fail
pub decimal_none : (p : ℕ → Bool) → ((b : ℕ) → 48 ≤ b → b ≤ 57 → p b ≡ false) → (n : ℕ) → n < 2 ^ 64 → NonePass p (decimal n)
decimal_none p other n fits = digits_none p other (decimal n) (digits_decimal own n fits)

pub digit_parts : (b : ℕ) → 48 ≤ b → b ≤ 57 → parts b ≡ false
digit_parts b low high = or_from _ _ (or_from _ _ (or_from _ _ (ne_eqb b 32 (λ e. omega arith)) (ne_eqb b 9 (λ e. omega arith))) (ne_eqb b 10 (λ e. omega arith))) (ne_eqb b 13 (λ e. omega arith))

pub decimal_plain : (n : ℕ) → n < 2 ^ 64 → IsPlain (decimal n)
decimal_plain n fits = record { some = decimal_nonempty n fits; free = decimal_none parts digit_parts n fits }

pub decimal_colon : (n : ℕ) → n < 2 ^ 64 → NonePass (λ b. b == 58) (decimal n)
decimal_colon n fits = decimal_none (λ b. b == 58) (λ b low high. ne_eqb b 58 (λ e. omega arith)) n fits

pub decimal_semicolon : (n : ℕ) → n < 2 ^ 64 → NonePass (λ b. b == 59) (decimal n)
decimal_semicolon n fits = decimal_none (λ b. b == 59) (λ b low high. ne_eqb b 59 (λ e. omega arith)) n fits

-- ---- IDs

letter_parts : (kind : Kind) → parts (letter_of kind) ≡ false
letter_parts letter.Text = refl
letter_parts letter.Event = refl
letter_parts letter.Relation = refl
letter_parts letter.Attribute = refl
letter_parts letter.Legacy = refl
letter_parts letter.Normal = refl
letter_parts letter.Note = refl

pub spelling_plain : (kind : Kind) (n : ℕ) → n ≤ 999999999 → IsPlain (spelling_of kind n)
spelling_plain kind n small = record { some = omega arith; free = (letter_parts kind, (decimal_plain n (omega arith)).free) }
