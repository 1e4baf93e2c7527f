-- A T line by its second field, and the lines of a file one at a time.
use Rattle.std.proofs.Common.{◌≡◌, ℕ, ◌+◌, ◌<◌, true, false, cond, List, [], ◌∷◌, ◌++◌, length, refl, sym, ◌∙◌, ap, Some, arith}
use Rattle.std.specs.List.{position_or_len, before_first, after_first}
use Rattle.mark_base.specs.declared.fragments.Frag.{Frag}
use Rattle.ann_reader.specs.Lines.{is_blank, lines_from}
use Rattle.ann_reader.specs.Words.{is_space, is_padded, behind_word}
use Rattle.ann_reader.specs.LineForms.{TextForm, frags_read, text_with, text_form}
use Rattle.ann_reader.proofs.WordLemmas.{parts, words_are, word_first, padded_first}

-- ---- the lines of a file

pub line_kept : (number : ℕ) (piece : List ℕ) (more : List (List ℕ)) → lines_from number (piece ∷ []) ++ lines_from (number + 1) more ≡ lines_from number (piece ∷ more)
line_kept number piece more =
    elim (is_blank piece) as (λ b. cond b [] (record { number = number; bytes = piece } ∷ []) ++ lines_from (number + 1) more ≡ cond b (lines_from (number + 1) more) (record { number = number; bytes = piece } ∷ lines_from (number + 1) more)) [
      | true ↦ refl
      | false ↦ refl
    ]

-- ---- a T line

pub text_cut : (first second text : List ℕ) (frags : List Frag) → is_padded second ≡ false → position_or_len is_space second < length second
    → Some frags ≡ frags_read (behind_word second) → TextForm first (before_first is_space second) frags text ≡ text_form first second text
text_cut first [] text frags plain below e = absurd (omega arith)
text_cut first (x ∷ xs) text frags plain below e =
    let second : List ℕ = x ∷ xs in
    ap (λ o. text_with first (before_first is_space second ∷ parts (after_first is_space second)) o text) e
    ∙ sym (ap (λ ws. text_with first ws (frags_read (behind_word second)) text) (words_are second plain ∙ word_first x xs (padded_first x xs plain) below))
