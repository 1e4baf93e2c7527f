-- A slice of a text between the bytes of two characters.
use Rattle.std.proofs.Common.{◌≡◌, ℕ, ◌+◌, ◌-◌, ◌≤◌, true, List, length, take, drop, chars, encode_utf8_all, refl, sym, ◌∙◌, ap, arith, length-append, suc, zero, [], ◌∷◌}
use Rattle.std.specs.Str.{IsUtf8, all_scalars}
use Rattle.std.proofs.lemmas.Bool.{and_parts, and_from}
use Rattle.std.proofs.lemmas.List.{take-append-drop}
use Rattle.std.proofs.Math.Seq.{take-add, take-append_seam}
use Rattle.std.proofs.Math.Utf8.{scalar}
use Rattle.std.proofs.lemmas.Str.{encodes-append, scalars-chars, chars-encodes}
use Rattle.char_documents.specs.Checkpoints.{byte_of}
use Rattle.char_documents.proofs.CheckpointLemmas.{drop_front, scalars_drop}

scalars_take : (i : ℕ) (cs : List ℕ) → all_scalars cs ≡ true → all_scalars (take i cs) ≡ true
scalars_take zero cs t = refl
scalars_take (suc i) [] t = refl
scalars_take (suc i) (c ∷ cs) t =
    let parts = and_parts (scalar c) (all_scalars cs) t in
    and_from (scalar c) (all_scalars (take i cs)) parts.0 (scalars_take i cs parts.1)

-- the bytes up to a later character are those up to an earlier one and those between the two
byte_between : (text : List ℕ) (i n : ℕ)
    → byte_of text (i + n) ≡ byte_of text i + length (encode_utf8_all (take n (drop i (chars text))))
unfolding byte_of
byte_between text i n =
    ap (λ cs. length (encode_utf8_all cs)) (take-add i n (chars text))
    ∙ ap length (encodes-append (take i (chars text)) (take n (drop i (chars text))))
    ∙ length-append (encode_utf8_all (take i (chars text))) (encode_utf8_all (take n (drop i (chars text))))

pub bytes_ordered : (text : List ℕ) (i j : ℕ) → i ≤ j → byte_of text i ≤ byte_of text j
bytes_ordered text i j le =
    let sum : i + (j - i) ≡ j = omega arith in
    let between = byte_between text i (j - i) in
    let same = ap (byte_of text) sum in
    omega (arith, between, same)

-- the front of a text's rest
front_of : (cs : List ℕ) (n : ℕ) → take (length (encode_utf8_all (take n cs))) (encode_utf8_all cs) ≡ encode_utf8_all (take n cs)
front_of cs n =
    ap (λ ds. take (length (encode_utf8_all (take n cs))) (encode_utf8_all ds)) (sym (take-append-drop n cs))
    ∙ ap (take (length (encode_utf8_all (take n cs)))) (encodes-append (take n cs) (drop n cs))
    ∙ take-append_seam (encode_utf8_all (take n cs)) (encode_utf8_all (drop n cs))

-- the bytes between two characters are those of the characters between
pub slice_bytes : (text : List ℕ) (i j : ℕ) → IsUtf8 text → i ≤ j
    → take (byte_of text j - byte_of text i) (drop (byte_of text i) text) ≡ encode_utf8_all (take (j - i) (drop i (chars text)))
slice_bytes text i j utf8 le =
    let sum : i + (j - i) ≡ j = omega arith in
    let between = byte_between text i (j - i) in
    let same = ap (byte_of text) sum in
    let size : byte_of text j - byte_of text i ≡ length (encode_utf8_all (take (j - i) (drop i (chars text)))) = omega (arith, between, same) in
    ap (λ n. take n (drop (byte_of text i) text)) size
    ∙ ap (take (length (encode_utf8_all (take (j - i) (drop i (chars text)))))) (drop_front text i utf8)
    ∙ front_of (drop i (chars text)) (j - i)

pub slice_chars : (text : List ℕ) (i n : ℕ) → IsUtf8 text → chars (encode_utf8_all (take n (drop i (chars text)))) ≡ take n (drop i (chars text))
slice_chars text i n utf8 =
    chars-encodes (take n (drop i (chars text))) (scalars_take n (drop i (chars text)) (scalars_drop i (chars text) (scalars-chars text utf8)))

pub slice_between : (text piece : List ℕ) (a b i j : ℕ) → IsUtf8 text → i ≤ j → a ≡ byte_of text i → b ≡ byte_of text j
    → piece ≡ take (b - a) (drop a text) → piece ≡ encode_utf8_all (take (j - i) (drop i (chars text)))
slice_between text piece a b i j utf8 le start end is =
    is ∙ ap (λ n. take (n - a) (drop a text)) end ∙ ap (λ n. take (byte_of text j - n) (drop n text)) start ∙ slice_bytes text i j utf8 le

pub between_ordered : (text : List ℕ) (a b i j : ℕ) → i ≤ j → a ≡ byte_of text i → b ≡ byte_of text j → a ≤ b
between_ordered text a b i j le start end = let h = bytes_ordered text i j le in omega (arith, h, start, end)
