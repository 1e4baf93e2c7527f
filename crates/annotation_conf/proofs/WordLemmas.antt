-- Words joined by a mark: the first, and then each other behind the mark.
use Rattle.std.proofs.Common.{◌≡◌, ℕ, ◌<◌, List, [], ◌∷◌, ◌++◌, length, drop, get_or, codes, refl, sym, ◌∙◌, ap, append_assoc, arith}
use Rattle.std.specs.List.{join_with_byte, flat_map}
use Rattle.std.proofs.lemmas.List.{append-nil}
use Rattle.conf_model.specs.ConfText.{with_commas}

pub joined_marked : (word : List ℕ) (words : List (List ℕ)) → word ++ flat_map (λ w. codes "|" ++ w) words ≡ join_with_byte 124 (word ∷ words)
joined_marked word [] = append-nil word
joined_marked word (next ∷ words) = ap (λ xs. word ++ (124 ∷ xs)) (joined_marked next words)

pub commas_marked : (word : List ℕ) (words : List (List ℕ)) → word ++ flat_map (λ w. codes ", " ++ w) words ≡ with_commas (word ∷ words)
commas_marked word [] = append-nil word
commas_marked word (next ∷ words) =
    ap (λ xs. word ++ (44 ∷ 32 ∷ xs)) (commas_marked next words) ∙ sym (append_assoc word (codes ", ") (with_commas (next ∷ words)))

-- the same behind what was written before, for the words of a list
pub joined_behind : (old word : List ℕ) (words : List (List ℕ)) → 0 < length words → word ≡ get_or words 0 word
    → old ++ word ++ flat_map (λ w. codes "|" ++ w) (drop 1 words) ≡ old ++ join_with_byte 124 words
joined_behind old word [] some is = absurd (omega arith)
joined_behind old word (first ∷ words) some is =
    append_assoc old word (flat_map (λ w. codes "|" ++ w) words) ∙ ap (λ w. old ++ (w ++ flat_map (λ v. codes "|" ++ v) words)) is ∙ ap (λ xs. old ++ xs) (joined_marked first words)

pub commas_behind : (old word : List ℕ) (words : List (List ℕ)) → 0 < length words → word ≡ get_or words 0 word
    → old ++ word ++ flat_map (λ w. codes ", " ++ w) (drop 1 words) ≡ old ++ with_commas words
commas_behind old word [] some is = absurd (omega arith)
commas_behind old word (first ∷ words) some is =
    append_assoc old word (flat_map (λ w. codes ", " ++ w) words) ∙ ap (λ w. old ++ (w ++ flat_map (λ v. codes ", " ++ v) words)) is ∙ ap (λ xs. old ++ xs) (commas_marked first words)
