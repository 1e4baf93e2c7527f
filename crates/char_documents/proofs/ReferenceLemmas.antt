-- A reference text grows by one fragment after another.
use Rattle.std.proofs.Common.{◌≡◌, ℕ, ◌+◌, ◌<◌, zero, suc, ◌==◌, false, List, [], ◌∷◌, ◌++◌, length, take, get_or, map, encode_utf8_all, refl, sym, ◌∙◌, ap, arith, append_assoc}
use Rattle.std.specs.List.{join_with_byte}
use Rattle.std.proofs.lemmas.List.{take_more, length-take-le}
use Rattle.std.proofs.lemmas.Str.{encodes-append, encode_ascii}
use Rattle.std.proofs.lemmas.Bool.{cond-false, ne_eqb, and_left, and_right}
use Rattle.mark_base.specs.declared.fragments.Frag.{Frag}
use Rattle.char_documents.specs.Texts.{all_lie_in, covered, lies_in, reference_text, separator, shown}

-- one more piece
join_push : (c : ℕ) (y : List ℕ) (xs : List (List ℕ)) (x : List ℕ)
    → join_with_byte c (y ∷ (xs ++ x ∷ [])) ≡ join_with_byte c (y ∷ xs) ++ (c ∷ x)
join_push c y [] x = refl
join_push c y (z ∷ zs) x = ap (λ l. y ++ (c ∷ l)) (join_push c z zs x) ∙ sym (append_assoc y (c ∷ join_with_byte c (z ∷ zs)) (c ∷ x))

map_push : (f : Frag → List ℕ) (frags : List Frag) (frag : Frag) → map f (frags ++ frag ∷ []) ≡ map f frags ++ f frag ∷ []
map_push f [] frag = refl
map_push f (g ∷ frags) frag = ap (λ l. f g ∷ l) (map_push f frags frag)

separator_more : (n : ℕ) → separator (suc n) ≡ 32 ∷ []
separator_more n = cond-false (suc n == 0) [] (32 ∷ []) (ne_eqb (suc n) 0 (λ e. absurd (omega arith)))

space : (cs : List ℕ) → encode_utf8_all (32 ∷ cs) ≡ 32 ∷ [] ++ encode_utf8_all cs
space cs = ap (λ bs. bs ++ encode_utf8_all cs) (encode_ascii 32 (omega arith))

-- one more fragment
joined : (text : List ℕ) (front : List Frag) (frag : Frag)
    → encode_utf8_all (reference_text text (front ++ frag ∷ []))
    ≡ (encode_utf8_all (reference_text text front) ++ separator (length front)) ++ encode_utf8_all (map shown (covered text frag))
unfolding reference_text
joined text [] frag = refl
joined text (f ∷ front) frag =
    let before : List ℕ = join_with_byte 32 (map (λ g. map shown (covered text g)) (f ∷ front)) in
    let after : List ℕ = map shown (covered text frag) in
    ap (λ l. encode_utf8_all (join_with_byte 32 (map shown (covered text f) ∷ l))) (map_push (λ g. map shown (covered text g)) front frag)
    ∙ ap encode_utf8_all (join_push 32 (map shown (covered text f)) (map (λ g. map shown (covered text g)) front) after)
    ∙ encodes-append before (32 ∷ after)
    ∙ ap (λ l. encode_utf8_all before ++ l) (space after)
    ∙ sym (append_assoc (encode_utf8_all before) (32 ∷ []) (encode_utf8_all after))
    ∙ sym (ap (λ l. (encode_utf8_all before ++ l) ++ encode_utf8_all after) (separator_more (length front)))

pub joined_more : (text : List ℕ) (frags : List Frag) (i : ℕ) (frag : Frag) → i < length frags
    → encode_utf8_all (reference_text text (take (i + 1) frags))
    ≡ (encode_utf8_all (reference_text text (take i frags)) ++ separator i) ++ encode_utf8_all (map shown (covered text (get_or frags i frag)))
joined_more text frags i frag within =
    ap (λ l. encode_utf8_all (reference_text text l)) (take_more frags i frag within)
    ∙ joined text (take i frags) (get_or frags i frag)
    ∙ ap (λ n. (encode_utf8_all (reference_text text (take i frags)) ++ separator n) ++ encode_utf8_all (map shown (covered text (get_or frags i frag)))) (length-take-le i frags (omega arith))

-- nothing was joined yet
pub joined_none : (text : List ℕ) → encode_utf8_all (reference_text text []) ≡ []
unfolding reference_text
joined_none text = refl

-- a fragment outside of the text
pub one_out : (text : List ℕ) (frags : List Frag) (i : ℕ) (frag : Frag) → i < length frags → lies_in text (get_or frags i frag) ≡ false
    → all_lie_in text frags ≡ false
one_out text [] i frag within out = absurd (omega arith)
one_out text (f ∷ frags) zero frag within out = and_left (lies_in text f) (all_lie_in text frags) out
one_out text (f ∷ frags) (suc i) frag within out = and_right (lies_in text f) (all_lie_in text frags) (one_out text frags i frag (omega arith) out)
