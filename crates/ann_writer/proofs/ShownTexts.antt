-- The third field of a line: a reference text, or the text of a normalization or a note.
use Rattle.std.proofs.Common.{◌≡◌, refl, sym, ap, ap₂, ◌∙◌, subst, ℕ, zero, suc, ◌-◌, ◌≤◌, Bool, true, false, cond, not, ◌||◌, ◌&&◌, ◌==◌, List, [], ◌∷◌, length, map, take, drop, arith, chars, IsUtf8, encode_utf8_all}
use Rattle.std.proofs.lemmas.Bool.{or_parts, or_from, and_parts, ne_eqb, true≢false}
use Rattle.std.proofs.lemmas.Str.{chars-encodes, scalars-chars}
use lib.Utf8.{scalar, scalars}
use Rattle.std.specs.Str.{NonePass}
use Rattle.std.specs.List.{AllByRecursion, list_any}
use Rattle.mark_base.specs.declared.fragments.Frag.{Frag}
use Rattle.char_documents.specs.Texts.{covered, shown, reference_text}
use Rattle.annotation_conf.proofs.WrittenChoices.{none_joined}
use Rattle.annotation_conf.proofs.WrittenLists.{none_less}
use Rattle.ann_reader.specs.Lines.{without_return}
use Rattle.ann_reader.specs.AnnFaults.{as_space}
use Rattle.ann_writer.proofs.PlainWords.{bytes_free}
use Rattle.ann_writer.proofs.FieldWords.{none_index, unreturned, last}

-- a line feed or a carriage return
abbrev pub ends_line : ℕ → Bool
ends_line c = c == 10 || c == 13

past_ends : (b : ℕ) → 128 ≤ b → ends_line b ≡ false
past_ends b far = or_from _ _ (ne_eqb b 10 (λ e. omega arith)) (ne_eqb b 13 (λ e. omega arith))

none_take : (p : ℕ → Bool) (n : ℕ) (xs : List ℕ) → NonePass p xs → NonePass p (take n xs)
none_take p zero xs h = tt
none_take p (suc n) [] h = tt
none_take p (suc n) (x ∷ xs) h = (h.0, none_take p n xs h.1)

none_drop : (p : ℕ → Bool) (n : ℕ) (xs : List ℕ) → NonePass p xs → NonePass p (drop n xs)
none_drop p zero xs h = h
none_drop p (suc n) [] h = tt
none_drop p (suc n) (x ∷ xs) h = none_drop p n xs h.1

shown_by : (p : ℕ → Bool) (b : Bool) (c : ℕ) → p 32 ≡ false → p c ≡ false → p (cond b 32 c) ≡ false
shown_by p true c space h = space
shown_by p false c space h = h

none_shown : (p : ℕ → Bool) → p 32 ≡ false → (xs : List ℕ) → NonePass p xs → NonePass p (map shown xs)
none_shown p space [] h = tt
none_shown p space (x ∷ xs) h = (shown_by p (x == 10 || x == 13) x space h.0, none_shown p space xs h.1)

free_by : (b : Bool) (c : ℕ) → ends_line c ≡ b → ends_line (cond b 32 c) ≡ false
free_by true c e = refl
free_by false c e = e

shown_free : (xs : List ℕ) → NonePass ends_line (map shown xs)
shown_free [] = tt
shown_free (x ∷ xs) = (free_by (ends_line x) x refl, shown_free xs)

-- ---- the reference text

each_free : (text : List ℕ) (frags : List Frag) → AllByRecursion (NonePass ends_line) (map (λ frag. map shown (covered text frag)) frags)
each_free text [] = tt
each_free text (frag ∷ frags) = (shown_free (covered text frag), each_free text frags)

pub reference_free : (text : List ℕ) (frags : List Frag) → NonePass ends_line (reference_text text frags)
unfolding reference_text
reference_free text frags = none_joined ends_line 32 refl (map (λ frag. map shown (covered text frag)) frags) (each_free text frags)

-- what is no character
abbrev pub is_no_scalar : ℕ → Bool
is_no_scalar c = not (scalar c)

not_not : (b : Bool) → not b ≡ false → b ≡ true
not_not true e = refl
not_not false e = absurd (true≢false e)

are_scalars : (xs : List ℕ) → NonePass is_no_scalar xs → scalars xs ≡ true
are_scalars [] h = refl
are_scalars (x ∷ xs) h = ap₂ (λ a b. a && b) (not_not (scalar x) h.0) (are_scalars xs h.1)

scalars_none : (xs : List ℕ) → scalars xs ≡ true → NonePass is_no_scalar xs
scalars_none [] h = tt
scalars_none (x ∷ xs) h = let both = and_parts (scalar x) (scalars xs) h in (ap not both.0, scalars_none xs both.1)

each_scalar : (text : List ℕ) (frags : List Frag) → NonePass is_no_scalar text → AllByRecursion (NonePass is_no_scalar) (map (λ frag. map shown (covered text frag)) frags)
each_scalar text [] h = tt
each_scalar text (frag ∷ frags) h =
    (none_shown is_no_scalar refl (covered text frag) (none_take is_no_scalar (frag.end - frag.start) (drop frag.start text) (none_drop is_no_scalar frag.start text h)), each_scalar text frags h)

pub text_scalars : (text : List ℕ) → IsUtf8 (encode_utf8_all text) → chars (encode_utf8_all text) ≡ text → scalars text ≡ true
text_scalars text valid same = ap scalars (sym same) ∙ scalars-chars (encode_utf8_all text) valid

pub reference_scalars : (text : List ℕ) (frags : List Frag) → scalars text ≡ true → scalars (reference_text text frags) ≡ true
unfolding reference_text
reference_scalars text frags h =
    are_scalars (reference_text text frags) (none_joined is_no_scalar 32 refl (map (λ frag. map shown (covered text frag)) frags) (each_scalar text frags (scalars_none text h)))

-- its characters are read back
pub reference_chars : (text : List ℕ) (frags : List Frag) → scalars text ≡ true → chars (encode_utf8_all (reference_text text frags)) ≡ reference_text text frags
reference_chars text frags h = chars-encodes (reference_text text frags) (reference_scalars text frags h)

as_it_is : (xs : List ℕ) → NonePass ends_line xs → map as_space xs ≡ xs
as_it_is [] h = refl
as_it_is (x ∷ xs) h = ap₂ (λ y ys. y ∷ ys) (ap (λ b. cond b 32 x) (or_parts (x == 10) (x == 13) h.0).1) (as_it_is xs h.1)

pub reference_shown : (text : List ℕ) (frags : List Frag) → scalars text ≡ true → map as_space (chars (encode_utf8_all (reference_text text frags))) ≡ reference_text text frags
reference_shown text frags h = ap (map as_space) (reference_chars text frags h) ∙ as_it_is (reference_text text frags) (reference_free text frags)

pub reference_valid : (text : List ℕ) (frags : List Frag) → scalars text ≡ true → IsUtf8 (encode_utf8_all (reference_text text frags))
reference_valid text frags h = (reference_text text frags, (reference_scalars text frags h, refl))

-- ---- texts

-- no byte ends a line
pub text_bytes : (text : List ℕ) → IsUtf8 text → NonePass ends_line (chars text) → NonePass ends_line text
text_bytes text valid h = bytes_free ends_line past_ends text valid h

pub reference_bytes : (text : List ℕ) (frags : List Frag) → scalars text ≡ true → NonePass ends_line (encode_utf8_all (reference_text text frags))
reference_bytes text frags h =
    text_bytes (encode_utf8_all (reference_text text frags)) (reference_valid text frags h) (subst (NonePass ends_line) (sym (reference_chars text frags h)) (reference_free text frags))

last_free : (text : List ℕ) → NonePass ends_line text → (last text == 13) ≡ false
last_free [] h = refl
last_free (c ∷ cs) h = (or_parts (last (c ∷ cs) == 10) (last (c ∷ cs) == 13) (none_index ends_line (c ∷ cs) (length (c ∷ cs) - 1) h (omega arith))).1

pub text_kept : (text : List ℕ) → NonePass ends_line text → without_return text ≡ text
text_kept text h = unreturned text (last_free text h)

pub no_feed_in : (text : List ℕ) → NonePass ends_line text → NonePass (λ c. c == 10) text
no_feed_in text h = none_less ends_line (λ c. c == 10) (λ c e. (or_parts (c == 10) (c == 13) e).0) text h

pub free_text : (text : List ℕ) → list_any ends_line text ≡ false → NonePass ends_line text
free_text [] e = tt
free_text (c ∷ cs) e = let both = or_parts (ends_line c) (list_any ends_line cs) e in (both.0, free_text cs both.1)
