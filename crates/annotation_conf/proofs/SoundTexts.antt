-- Bytes that are UTF-8 have lines that are, and the words of their lines are UTF-8.
use Rattle.std.proofs.Common.{◌≡◌, ℕ, ◌+◌, ◌-◌, ◌/◌, ◌%◌, ◌<◌, ◌≤◌, ◌==◌, Bool, true, false, cond, List, [], ◌∷◌, ◌++◌, length, take, drop, get_or, slice_index, nat_lt, IsUtf8, chars, encode_utf8_all, zero, suc, refl, sym, subst, ◌∙◌, ap, arith, inl, inr, append-nil, take_all}
use Rattle.std.specs.List.{AllByRecursion as Each, slice_split, onto_first, before_first, after_first}
use Rattle.std.specs.Str.{is_utf8}
use Rattle.std.specs.Str.Lossy.{utf8_valid_len, valid_len_up_to}
use Rattle.std.specs.Str.Lines.{lines, lines_of_parts, strip_carriage_return}
use Rattle.std.proofs.lemmas.Bool.{and_parts, and_from, cases_Bool, ltb-false, eqb-true, eqb-false, ne_eqb, cond_both, cond-false}
use Rattle.std.proofs.lemmas.List.Splits.{length-slice_split}
use Rattle.std.proofs.lemmas.Str.{IsUtf8-nil, IsUtf8-append, IsUtf8-from_is_utf8, IsUtf8-take, IsCharBoundary-before_ascii, encode_ascii, scalars-chars}
use lib.Utf8.{scalar, scalars, encode, encodes}
use Rattle.conf_model.specs.ConfLines.{Place, Skipped, Header, Macro, Content, Line, is_skipped, is_enclosed, enclosed, section_named, is_macro, kind_of, lines_from}

-- bytes that are UTF-8 up to their end
valid_le : (bs : List ℕ) (n : ℕ) → valid_len_up_to bs n ≤ n
valid_le bs zero = omega arith
valid_le bs (suc n) = cond_both (is_utf8 (take (suc n) bs)) (suc n) (valid_len_up_to bs n) (λ k. k ≤ suc n) (λ e. omega arith) (λ e. omega (arith, valid_le bs n))

valid_front : (bs : List ℕ) (n : ℕ) → n ≤ valid_len_up_to bs n → IsUtf8 (take n bs)
valid_front bs zero h = IsUtf8-nil
valid_front bs (suc n) h = go (is_utf8 (take (suc n) bs)) refl h
  where
    go : (b : Bool) → is_utf8 (take (suc n) bs) ≡ b → suc n ≤ cond b (suc n) (valid_len_up_to bs n) → IsUtf8 (take (suc n) bs)
    go true e k = IsUtf8-from_is_utf8 (take (suc n) bs) e
    go false e k = absurd (omega (arith, valid_le bs n))

pub valid_whole : (bs : List ℕ) → nat_lt (utf8_valid_len bs) (length bs) ≡ false → IsUtf8 bs
unfolding utf8_valid_len
valid_whole bs e = subst IsUtf8 (take_all (length bs) bs (omega arith)) (valid_front bs (length bs) (ltb-false (valid_len_up_to bs (length bs)) (length bs) e))

-- the parts between newlines
abbrev newline : ℕ → Bool
newline b = b == 10

encode_passes : (c : ℕ) → (c ≡ 10 → ⊥) → Each (λ b. newline b ≡ false) (encode c)
unfolding encode
encode_passes c ne =
    let P : List ℕ → Type 0 = λ bs. Each (λ b. newline b ≡ false) bs in
    cond_both (nat_lt c 128) (c ∷ []) _ P (λ e. (ne_eqb c 10 ne, tt)) (λ e.
    cond_both (nat_lt c 2048) ((192 + c / 64) ∷ (128 + c % 64) ∷ []) _ P (λ f. (high (192 + c / 64) (omega arith), (high (128 + c % 64) (omega arith), tt))) (λ f.
    cond_both (nat_lt c 65536) ((224 + c / 4096) ∷ (128 + (c / 64) % 64) ∷ (128 + c % 64) ∷ []) ((240 + c / 262144) ∷ (128 + (c / 4096) % 64) ∷ (128 + (c / 64) % 64) ∷ (128 + c % 64) ∷ []) P
    (λ g. (high (224 + c / 4096) (omega arith), (high (128 + (c / 64) % 64) (omega arith), (high (128 + c % 64) (omega arith), tt))))
    (λ g. (high (240 + c / 262144) (omega arith), (high (128 + (c / 4096) % 64) (omega arith), (high (128 + (c / 64) % 64) (omega arith), (high (128 + c % 64) (omega arith), tt)))))))
  where
    high : (b : ℕ) → 128 ≤ b → newline b ≡ false
    high b h = ne_eqb b 10 (λ e. absurd (omega arith))

-- bytes before the first part
abbrev onto : List ℕ → List (List ℕ) → List (List ℕ)
onto [] parts = parts
onto (x ∷ xs) parts = onto_first x (onto xs parts)

split_onto : (xs ys : List ℕ) → Each (λ b. newline b ≡ false) xs → slice_split newline (xs ++ ys) ≡ onto xs (slice_split newline ys)
split_onto [] ys a = refl
split_onto (x ∷ xs) ys a = cond-false (newline x) ([] ∷ slice_split newline (xs ++ ys)) (onto_first x (slice_split newline (xs ++ ys))) a.0 ∙ ap (onto_first x) (split_onto xs ys a.1)

onto_is : (xs part : List ℕ) (parts : List (List ℕ)) → onto xs (part ∷ parts) ≡ (xs ++ part) ∷ parts
onto_is [] part parts = refl
onto_is (x ∷ xs) part parts = ap (onto_first x) (onto_is xs part parts)

onto_each : (xs : List ℕ) (parts : List (List ℕ)) → 0 < length parts → IsUtf8 xs → Each IsUtf8 parts → Each IsUtf8 (onto xs parts)
onto_each xs [] some u a = absurd (omega arith)
onto_each xs (part ∷ parts) some u a = subst (Each IsUtf8) (sym (onto_is xs part parts)) (IsUtf8-append xs part u a.0, a.1)

parts_valid : (cs : List ℕ) → scalars cs ≡ true → Each IsUtf8 (slice_split newline (encodes cs))
parts_valid [] e = (IsUtf8-nil, tt)
parts_valid (c ∷ cs) e =
    let both = and_parts (scalar c) (scalars cs) e in
    elim (cases_Bool (newline c)) [
      | inl here ↦
          (let is : encode c ≡ 10 ∷ [] = ap encode (eqb-true c 10 here) ∙ encode_ascii 10 (omega arith) in
          subst (λ bs. Each IsUtf8 (slice_split newline (bs ++ encodes cs))) (sym is) (IsUtf8-nil, parts_valid cs both.1))
      | inr other ↦
          subst (Each IsUtf8) (sym (split_onto (encode c) (encodes cs) (encode_passes c (eqb-false c 10 other))))
          (onto_each (encode c) (slice_split newline (encodes cs)) (omega (arith, length-slice_split newline (encodes cs))) (c ∷ [], (and_from (scalar c) true both.0 refl, append-nil (encode c))) (parts_valid cs both.1))
    ]

strip_valid : (l : List ℕ) → IsUtf8 l → IsUtf8 (strip_carriage_return l)
strip_valid [] u = u
strip_valid (b ∷ bs) u =
    let l : List ℕ = b ∷ bs in
    let last : ℕ = length bs in
    cond_both (slice_index (b ∷ bs) (length (b ∷ bs) - 1) == 13) (take (length (b ∷ bs) - 1) (b ∷ bs)) (b ∷ bs) IsUtf8
    (λ e. let is : get_or (b ∷ bs) (length (b ∷ bs) - 1) 0 ≡ 13 = eqb-true (slice_index (b ∷ bs) (length (b ∷ bs) - 1)) 13 e in
    IsUtf8-take (b ∷ bs) (length (b ∷ bs) - 1) u (IsCharBoundary-before_ascii (b ∷ bs) (length (b ∷ bs) - 1) (omega arith) (omega arith)))
    (λ e. u)

of_parts_valid : (parts : List (List ℕ)) → Each IsUtf8 parts → Each IsUtf8 (lines_of_parts parts)
of_parts_valid [] a = tt
of_parts_valid (x ∷ []) a = cond_both (length x == 0) [] (x ∷ []) (Each IsUtf8) (λ e. tt) (λ e. a)
of_parts_valid (x ∷ y ∷ more) a = (strip_valid x a.0, of_parts_valid (y ∷ more) a.1)

pub lines_valid : (bs : List ℕ) → IsUtf8 bs → Each IsUtf8 (lines bs)
lines_valid bs u = of_parts_valid (slice_split newline bs) (subst (λ b. Each IsUtf8 (slice_split newline b)) u.1.1 (parts_valid u.0 u.1.0))

-- characters of content lines
abbrev pub AreTexts : List Line → Type 0
AreTexts lines = Each (λ (line : Line). (cs : List ℕ) → line.kind ≡ Content cs → scalars cs ≡ true) lines

content_text : (cs ds : List ℕ) → kind_of cs ≡ Content ds → ds ≡ cs
content_text cs ds e = go (is_skipped cs) (is_enclosed 91 93 cs) (is_macro cs) e
  where
    go : (a b c : Bool) → cond a Skipped (cond b (Header (section_named (enclosed cs))) (cond c (Macro (encode_utf8_all (drop 1 (before_first (λ k. k == 62) cs))) (drop 1 (after_first (λ k. k == 62) cs))) (Content cs))) ≡ Content ds → ds ≡ cs
    go true b c f = absurd (cc)
    go false true c f = absurd (cc)
    go false false true f = absurd (cc)
    go false false false f = cc

pub AreTexts-lines_from : (n : ℕ) (place : Place) (texts : List (List ℕ)) → Each IsUtf8 texts → AreTexts (lines_from n place texts)
AreTexts-lines_from n place [] a = tt
AreTexts-lines_from n place (text ∷ texts) a =
    ((λ ds e. ap scalars (content_text (chars text) ds e) ∙ scalars-chars text a.0), AreTexts-lines_from (n + 1) _ texts a.1)
