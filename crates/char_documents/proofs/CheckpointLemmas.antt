-- A text is the UTF-8 of the characters before an index and of those from it on.
use Rattle.std.proofs.Common.{◌≡◌, ℕ, ◌+◌, ◌-◌, ◌*◌, ◌/◌, ◌<◌, ◌≤◌, true, List, [], ◌∷◌, ◌++◌, Option, Some, None, length, take, drop, get_or, chars, encode_utf8_all, refl, sym, ◌∙◌, ap, arith, length-append, add-one, zero, suc, MatchOption, length-drop, subst, below_more}
use Rattle.std.specs.Str.{IsUtf8, IsCharBoundary, all_scalars}
use Rattle.std.specs.Char.{encode_utf8}
use Rattle.std.proofs.lemmas.Bool.{and_parts}
use Rattle.std.proofs.lemmas.List.{take-append-drop, get_or_push, length-take-le}
use Rattle.std.proofs.Math.Seq.{drop-cons, drop-drop, drop-append_seam}
use Rattle.std.proofs.Math.ListN.{get_or-append}
use Rattle.std.proofs.Math.Utf8.{scalar}
use Rattle.std.proofs.lemmas.Str.{encodes-append, encodes-chars, scalars-chars, chars-encodes, encode_same, IsCharBoundary-at_seam, length-encode, length-le-encodes, len_utf8_bounds}
use Rattle.char_documents.specs.Checkpoints.{byte_of, IsMarked}

-- characters are still characters behind a place
pub scalars_drop : (i : ℕ) (cs : List ℕ) → all_scalars cs ≡ true → all_scalars (drop i cs) ≡ true
scalars_drop zero cs t = t
scalars_drop (suc i) [] t = t
scalars_drop (suc i) (c ∷ cs) t = scalars_drop i cs (and_parts (scalar c) (all_scalars cs) t).1

-- the two parts of a text
pub cut : (text : List ℕ) (i : ℕ) → IsUtf8 text → text ≡ encode_utf8_all (take i (chars text)) ++ encode_utf8_all (drop i (chars text))
cut text i utf8 =
    sym (encodes-chars text utf8) ∙ sym (ap encode_utf8_all (take-append-drop i (chars text))) ∙ encodes-append (take i (chars text)) (drop i (chars text))

-- the characters of the second part
pub chars_behind : (text : List ℕ) (i : ℕ) → IsUtf8 text → chars (encode_utf8_all (drop i (chars text))) ≡ drop i (chars text)
chars_behind text i utf8 = chars-encodes (drop i (chars text)) (scalars_drop i (chars text) (scalars-chars text utf8))

pub utf8_behind : (text : List ℕ) (i : ℕ) → IsUtf8 text → IsUtf8 (encode_utf8_all (drop i (chars text)))
utf8_behind text i utf8 = (drop i (chars text), (scalars_drop i (chars text) (scalars-chars text utf8), refl))

-- what stands from a character's byte on
pub drop_front : (text : List ℕ) (i : ℕ) → IsUtf8 text → drop (byte_of text i) text ≡ encode_utf8_all (drop i (chars text))
unfolding byte_of
drop_front text i utf8 =
    ap (drop (length (encode_utf8_all (take i (chars text))))) (cut text i utf8)
    ∙ drop-append_seam (encode_utf8_all (take i (chars text))) (encode_utf8_all (drop i (chars text)))

-- the length of what stands behind tells where it begins
pub front_bytes : (text : List ℕ) (i : ℕ) → IsUtf8 text
    → length (encode_utf8_all (drop i (chars text))) + byte_of text i ≡ length text
unfolding byte_of
front_bytes text i utf8 =
    let whole = ap length (cut text i utf8) in
    omega (arith, whole, length-append (encode_utf8_all (take i (chars text))) (encode_utf8_all (drop i (chars text))))

-- a character begins at its byte
pub boundary : (text : List ℕ) (i : ℕ) → IsUtf8 text → IsCharBoundary text (byte_of text i)
unfolding byte_of
boundary text i utf8 =
    IsCharBoundary-at_seam text (encode_utf8_all (take i (chars text))) (encode_utf8_all (drop i (chars text))) (cut text i utf8) (utf8_behind text i utf8)

-- one character more
pub past_one : (cs s t : List ℕ) (i c : ℕ) → i < length cs → s ≡ encode_utf8_all (drop i cs) → s ≡ encode_utf8 c ++ t
    → t ≡ encode_utf8_all (drop (i + 1) cs)
past_one cs s t i c within before next =
    let first : drop i cs ≡ get_or cs i 0 ∷ drop (suc i) cs = drop-cons cs i 0 within in
    rw add-one (encode_same c (get_or cs i 0) t (encode_utf8_all (drop (suc i) cs)) (sym next ∙ before ∙ ap encode_utf8_all first)).1

pub not_past : (cs s : List ℕ) (i : ℕ) → i < length cs → s ≡ encode_utf8_all (drop i cs) → length s ≡ 0 → ⊥
not_past cs s i within before none =
    let first : drop i cs ≡ get_or cs i 0 ∷ drop (suc i) cs = drop-cons cs i 0 within in
    let long = ap length (before ∙ ap encode_utf8_all first) in
    let some = (len_utf8_bounds (get_or cs i 0)).0 in
    omega (arith, long, none, some, length-encode (get_or cs i 0), length-append (encode_utf8 (get_or cs i 0)) (encode_utf8_all (drop (suc i) cs)))

pub past_next : (P : Type 0) (cs s t : List ℕ) (i : ℕ) (r : Option ℕ) → i < length cs → s ≡ encode_utf8_all (drop i cs)
    → (P → length s ≡ 0) → MatchOption r P (λ c. s ≡ encode_utf8 c ++ t) → t ≡ encode_utf8_all (drop (i + 1) cs)
past_next P cs s t i None within before none next = absurd (not_past cs s i within before (none next))
past_next P cs s t i (Some c) within before none next = past_one cs s t i c within before next

-- what stands behind further characters of the rest
pub behind_more : (text rest more : List ℕ) (i n j : ℕ) → IsUtf8 text → i + n ≡ j → rest ≡ encode_utf8_all (drop i (chars text))
    → more ≡ encode_utf8_all (drop n (chars rest)) → more ≡ encode_utf8_all (drop j (chars text))
behind_more text rest more i n j utf8 sum at next =
    next ∙ ap (λ r. encode_utf8_all (drop n (chars r))) at ∙ ap (λ r. encode_utf8_all (drop n r)) (chars_behind text i utf8)
    ∙ ap encode_utf8_all (drop-drop n i (chars text)) ∙ ap (λ k. encode_utf8_all (drop k (chars text))) sum

-- how many characters the rest has
pub length_behind : (text rest : List ℕ) (i : ℕ) → IsUtf8 text → rest ≡ encode_utf8_all (drop i (chars text))
    → length (chars rest) ≡ length (chars text) - i
length_behind text rest i utf8 at =
    ap (λ r. length (chars r)) at ∙ ap length (chars_behind text i utf8) ∙ length-drop i (chars text)

-- the byte at which the rest begins
pub byte_behind : (text rest : List ℕ) (i : ℕ) → IsUtf8 text → rest ≡ encode_utf8_all (drop i (chars text))
    → length text - length rest ≡ byte_of text i
byte_behind text rest i utf8 at = let whole = front_bytes text i utf8 in let same = ap length at in omega (arith, whole, same)

pub rest_fits : (text rest : List ℕ) (i : ℕ) → IsUtf8 text → rest ≡ encode_utf8_all (drop i (chars text)) → length rest ≤ length text
rest_fits text rest i utf8 at = let whole = front_bytes text i utf8 in let same = ap length at in omega (arith, whole, same)

-- where each character is one byte, the character of an index begins at the byte of that index
pub byte_of_single : (text : List ℕ) (i : ℕ) → IsUtf8 text → length text ≡ length (chars text) → i ≤ length (chars text) → byte_of text i ≡ i
unfolding byte_of
byte_of_single text i utf8 single within =
    let whole = front_bytes text i utf8 in
    omega (arith, whole, single, within, length-le-encodes (take i (chars text)), length-le-encodes (drop i (chars text)), length-take-le i (chars text) within, length-drop i (chars text))

pub byte_of_first : (text : List ℕ) → byte_of text 0 ≡ 0
unfolding byte_of
byte_of_first text = refl

-- a mark, the text from it on, and the rest after further characters
pub mark_boundary : (text : List ℕ) (mark i : ℕ) → IsUtf8 text → mark ≡ byte_of text i → IsCharBoundary text mark
mark_boundary text mark i utf8 is = let P : ℕ → Type 0 = λ n. IsCharBoundary text n in subst P (sym is) (boundary text i utf8)

pub mark_rest : (text rest : List ℕ) (mark i : ℕ) → IsUtf8 text → mark ≡ byte_of text i → rest ≡ drop mark text
    → rest ≡ encode_utf8_all (drop i (chars text))
mark_rest text rest mark i utf8 is at = at ∙ ap (λ n. drop n text) is ∙ drop_front text i utf8

pub enough : (text rest : List ℕ) (mark i n j : ℕ) → IsUtf8 text → mark ≡ byte_of text i → rest ≡ drop mark text
    → i + n ≡ j → j ≤ length (chars text) → n ≤ length (chars rest)
enough text rest mark i n j utf8 is at sum within =
    let have = length_behind text rest i utf8 (mark_rest text rest mark i utf8 is at) in omega (arith, have)

pub found : (text rest more : List ℕ) (mark i n j : ℕ) → IsUtf8 text → mark ≡ byte_of text i → rest ≡ drop mark text
    → i + n ≡ j → more ≡ encode_utf8_all (drop n (chars rest)) → length text - length more ≡ byte_of text j
found text rest more mark i n j utf8 is at sum next =
    byte_behind text more j utf8 (behind_more text rest more i n j utf8 sum (mark_rest text rest mark i utf8 is at) next)

pub found_fits : (text rest more : List ℕ) (mark i n j : ℕ) → IsUtf8 text → mark ≡ byte_of text i → rest ≡ drop mark text
    → i + n ≡ j → more ≡ encode_utf8_all (drop n (chars rest)) → length more ≤ length text
found_fits text rest more mark i n j utf8 is at sum next =
    rest_fits text more j utf8 (behind_more text rest more i n j utf8 sum (mark_rest text rest mark i utf8 is at) next)

-- the checkpoint before an index
pub mark_before : (text marks : List ℕ) (index : ℕ) → IsMarked text marks → index ≤ length (chars text)
    → get_or marks (index / 256) 0 ≡ byte_of text (256 * (index / 256))
mark_before text marks index marked within =
    let count = marked.count in
    marked.places (index / 256) (omega (arith, count, within))

-- one more mark
pub places_push : (place : ℕ → ℕ) (xs ys : List ℕ) (x n : ℕ) → ys ≡ xs ++ x ∷ [] → length xs ≡ n
    → ((k : ℕ) → k < n → get_or xs k 0 ≡ place k) → x ≡ place n → (k : ℕ) → k < n + 1 → get_or ys k 0 ≡ place k
places_push place xs ys x n pushed count before here =
    below_more (λ k. get_or ys k 0 ≡ place k) n
    (λ k lt. ap (λ l. get_or l k 0) pushed ∙ get_or-append xs (x ∷ []) 0 k (omega arith) ∙ before k lt)
    (ap (λ l. get_or l n 0) pushed ∙ get_or_push xs x 0 n count ∙ here)

pub first_place : (text xs : List ℕ) → xs ≡ 0 ∷ [] → (k : ℕ) → k < 1 → get_or xs k 0 ≡ byte_of text (256 * k)
first_place text xs is k lt =
    let none : k ≡ 0 = omega arith in
    ap (λ j. get_or xs j 0) none ∙ ap (λ l. get_or l 0 0) is ∙ sym (byte_of_first text) ∙ sym (ap (λ j. byte_of text (256 * j)) none)
