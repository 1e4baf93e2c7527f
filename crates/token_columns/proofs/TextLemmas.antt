-- The characters of a text behind a place, and of its tokens.
use Rattle.std.proofs.Common.{◌≡◌, ℕ, ◌+◌, ◌-◌, ◌<◌, ◌≤◌, true, List, [], ◌∷◌, ◌++◌, Option, Some, None, length, take, drop, get_or, chars, encode_utf8_all, refl, sym, ◌∙◌, ap, arith, length-append, add-one, zero, suc, MatchOption, subst, map, append_assoc}
use Rattle.std.specs.Str.{IsUtf8, IsCharBoundary, all_scalars}
use Rattle.std.specs.Char.{encode_utf8}
use Rattle.std.proofs.lemmas.Bool.{and_parts, and_from}
use Rattle.std.proofs.lemmas.List.{at_drop_more, take-append-drop, length-take, length-drop}
use Rattle.std.proofs.Math.Seq.{drop-cons, drop-drop, take-append_seam}
use Rattle.std.proofs.Math.Utf8.{scalar}
use Rattle.mark_base.specs.declared.fragments.Frag.{Frag}
use Rattle.char_documents.specs.Texts.{covered}
use Rattle.token_columns.specs.Columns.{token_text}
use Rattle.std.proofs.lemmas.Str.{encodes-append, encodes-chars, scalars-chars, chars-encodes, encode_same, IsCharBoundary-after_ascii, IsCharBoundary-at_seam, length-encode, len_utf8_bounds}

pub scalars_drop : (i : ℕ) (cs : List ℕ) → all_scalars cs ≡ true → all_scalars (drop i cs) ≡ true
scalars_drop zero cs t = t
scalars_drop (suc i) [] t = t
scalars_drop (suc i) (c ∷ cs) t = scalars_drop i cs (and_parts (scalar c) (all_scalars cs) t).1

pub scalars_take : (i : ℕ) (cs : List ℕ) → all_scalars cs ≡ true → all_scalars (take i cs) ≡ true
scalars_take zero cs t = refl
scalars_take (suc i) [] t = refl
scalars_take (suc i) (c ∷ cs) t =
    let parts = and_parts (scalar c) (all_scalars cs) t in
    and_from (scalar c) (all_scalars (take i cs)) parts.0 (scalars_take i cs parts.1)

-- the two parts of a text
pub cut : (text : List ℕ) (i : ℕ) → IsUtf8 text → text ≡ encode_utf8_all (take i (chars text)) ++ encode_utf8_all (drop i (chars text))
cut text i utf8 =
    sym (encodes-chars text utf8) ∙ sym (ap encode_utf8_all (take-append-drop i (chars text))) ∙ encodes-append (take i (chars text)) (drop i (chars text))

pub chars_behind : (text : List ℕ) (i : ℕ) → IsUtf8 text → chars (encode_utf8_all (drop i (chars text))) ≡ drop i (chars text)
chars_behind text i utf8 = chars-encodes (drop i (chars text)) (scalars_drop i (chars text) (scalars-chars text utf8))

utf8_behind : (text : List ℕ) (i : ℕ) → IsUtf8 text → IsUtf8 (encode_utf8_all (drop i (chars text)))
utf8_behind text i utf8 = (drop i (chars text), (scalars_drop i (chars text) (scalars-chars text utf8), refl))

-- one character more
past_one : (cs s t : List ℕ) (i c : ℕ) → i < length cs → s ≡ encode_utf8_all (drop i cs) → s ≡ encode_utf8 c ++ t → t ≡ encode_utf8_all (drop (i + 1) cs)
past_one cs s t i c within before next =
    let first : drop i cs ≡ get_or cs i 0 ∷ drop (suc i) cs = drop-cons cs i 0 within in
    rw add-one (encode_same c (get_or cs i 0) t (encode_utf8_all (drop (suc i) cs)) (sym next ∙ before ∙ ap encode_utf8_all first)).1

not_past : (cs s : List ℕ) (i : ℕ) → i < length cs → s ≡ encode_utf8_all (drop i cs) → length s ≡ 0 → ⊥
not_past cs s i within before none =
    let first : drop i cs ≡ get_or cs i 0 ∷ drop (suc i) cs = drop-cons cs i 0 within in
    let long = ap length (before ∙ ap encode_utf8_all first) in
    let some = (len_utf8_bounds (get_or cs i 0)).0 in
    omega (arith, long, none, some, length-encode (get_or cs i 0), length-append (encode_utf8 (get_or cs i 0)) (encode_utf8_all (drop (suc i) cs)))

pub past_next : (P : Type 0) (cs s t : List ℕ) (i : ℕ) (r : Option ℕ) → i < length cs → s ≡ encode_utf8_all (drop i cs)
    → (P → length s ≡ 0) → MatchOption r P (λ c. s ≡ encode_utf8 c ++ t) → t ≡ encode_utf8_all (drop (i + 1) cs)
past_next P cs s t i None within before none next = absurd (not_past cs s i within before (none next))
past_next P cs s t i (Some c) within before none next = past_one cs s t i c within before next

-- ---- the front of a text

front_length : (text rest : List ℕ) (i : ℕ) → IsUtf8 text → rest ≡ encode_utf8_all (drop i (chars text)) → length text - length rest ≡ length (encode_utf8_all (take i (chars text)))
front_length text rest i utf8 is =
    let whole = ap length (cut text i utf8) in
    omega (arith, whole, ap length is, length-append (encode_utf8_all (take i (chars text))) (encode_utf8_all (drop i (chars text))))

pub front_boundary : (text rest : List ℕ) (i : ℕ) → IsUtf8 text → rest ≡ encode_utf8_all (drop i (chars text)) → IsCharBoundary text (length text - length rest)
front_boundary text rest i utf8 is =
    subst (IsCharBoundary text) (sym (front_length text rest i utf8 is))
    (IsCharBoundary-at_seam text (encode_utf8_all (take i (chars text))) (encode_utf8_all (drop i (chars text))) (cut text i utf8) (utf8_behind text i utf8))

pub front_bytes : (text rest : List ℕ) (i : ℕ) → IsUtf8 text → rest ≡ encode_utf8_all (drop i (chars text)) → take (length text - length rest) text ≡ encode_utf8_all (take i (chars text))
front_bytes text rest i utf8 is =
    ap (λ n. take n text) (front_length text rest i utf8 is)
    ∙ ap (take (length (encode_utf8_all (take i (chars text))))) (cut text i utf8)
    ∙ take-append_seam (encode_utf8_all (take i (chars text))) (encode_utf8_all (drop i (chars text)))

-- behind an ASCII character
pub cut_back : (bs : List ℕ) (start : ℕ) → IsUtf8 bs → start < length bs → get_or bs start 0 < 128 → IsCharBoundary bs (start + 1)
cut_back bs start u l a = IsCharBoundary-after_ascii bs start u l a

pub front_within : (text rest : List ℕ) (i : ℕ) → IsUtf8 text → rest ≡ encode_utf8_all (drop i (chars text)) → length rest ≤ length text
front_within text rest i utf8 is =
    let whole = ap length (cut text i utf8) in
    omega (arith, whole, ap length is, length-append (encode_utf8_all (take i (chars text))) (encode_utf8_all (drop i (chars text))))

-- ---- tokens

pub text_scalars : (text characters : List ℕ) → IsUtf8 text → chars text ≡ characters → all_scalars characters ≡ true
text_scalars text characters utf8 same = subst (λ cs. all_scalars cs ≡ true) same (scalars-chars text utf8)

pub token_chars : (text : List ℕ) (token : Frag) → all_scalars text ≡ true → chars (token_text text token) ≡ covered text token
token_chars text token s =
    chars-encodes (take (token.end - token.start) (drop token.start text)) (scalars_take (token.end - token.start) (drop token.start text) (scalars_drop token.start text s))

pub covered_short : (text : List ℕ) (token : Frag) → length (covered text token) ≤ length text
covered_short text token = omega (arith, length-take (token.end - token.start) (drop token.start text), length-drop token.start text)

pub token_short : (text bytes : List ℕ) (token : Frag) → all_scalars text ≡ true → bytes ≡ token_text text token → length (chars bytes) ≤ length text
token_short text bytes token s is = omega (arith, ap length (ap chars is ∙ token_chars text token s), covered_short text token)

-- the next of some tokens
pub next_is : (tokens : List Frag) (i : ℕ) (d : Frag) → i < length tokens → drop i tokens ≡ get_or tokens i d ∷ drop (i + 1) tokens
next_is tokens i d within = at_drop_more (λ l. l) tokens i d within

pub behind_next : (doc rest : List ℕ) (place start : ℕ) → place ≤ start → chars rest ≡ drop place doc → drop (start - place) (chars rest) ≡ drop start doc
behind_next doc rest place start h is =
    let sum : place + (start - place) ≡ start = omega arith in
    ap (drop (start - place)) is ∙ drop-drop (start - place) place doc ∙ ap (λ n. drop n doc) sum

pub next_text : (doc : List ℕ) (tokens : List Frag) (i : ℕ) (d : Frag) (rest piece : List ℕ) (made : List (List ℕ)) (whole : List (List ℕ)) → i < length tokens
    → chars rest ≡ drop (get_or tokens i d).start doc → piece ≡ encode_utf8_all (take ((get_or tokens i d).end - (get_or tokens i d).start) (chars rest))
    → made ++ map (token_text doc) (drop i tokens) ≡ whole → (made ++ piece ∷ []) ++ map (token_text doc) (drop (i + 1) tokens) ≡ whole
next_text doc tokens i d rest piece made whole within at is h =
    let t : Frag = get_or tokens i d in
    append_assoc made (piece ∷ []) (map (token_text doc) (drop (i + 1) tokens))
    ∙ ap (λ p. made ++ p ∷ map (token_text doc) (drop (i + 1) tokens)) (is ∙ ap (λ cs. encode_utf8_all (take (t.end - t.start) cs)) at)
    ∙ sym (ap (λ ts. made ++ map (token_text doc) ts) (next_is tokens i d within)) ∙ h
