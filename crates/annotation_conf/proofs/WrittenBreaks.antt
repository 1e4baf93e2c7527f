-- Lines, each with its end, are cut back into these lines.
use Rattle.std.proofs.Common.{◌≡◌, refl, ap, ap₂, ◌∙◌, ℕ, zero, suc, ◌-◌, Bool, false, List, [], ◌∷◌, ◌++◌, length, take, append_assoc, ◌==◌, arith, ◌<◌, chars, IsUtf8, slice_index, codes, flat_map, ⊎_elim}
use Rattle.std.proofs.lemmas.Bool.{or_from, or_parts, cond-false, ne_eqb, cases_lt}
use Rattle.std.proofs.lemmas.Str.{encodes-chars, NoCharPasses-byte, IsUtf8-append, IsUtf8-nil}
use Rattle.std.specs.Str.{NonePass}
use Rattle.std.specs.Str.Lines.{lines, lines_of_parts, strip_carriage_return}
use Rattle.std.specs.List.{slice_split, AllByRecursion}
use Rattle.annotation_conf.proofs.WrittenLists.{none_less, split_at}
use Rattle.annotation_conf.proofs.WrittenNames.{spells_valid, spells_plain}
use Rattle.annotation_conf.proofs.WrittenTails.{is_end}

-- a line with its end
abbrev pub ended : List ℕ → List ℕ
ended line = line ++ codes "\n"

-- a text without a line end within it
pub record IsLine (line : List ℕ) : Type 0 where
  pub valid : IsUtf8 line
  pub unbroken : NonePass is_end (chars line)

-- no byte of such a text is a line end either
byte_free : (line : List ℕ) → IsLine line → (i : ℕ) → i < length line → is_end (slice_index line i) ≡ false
byte_free line h i l =
    ⊎_elim (λ low. NoCharPasses-byte is_end line i (chars line, encodes-chars line h.valid, h.unbroken) l low)
    (λ high. or_from (slice_index line i == 10) (slice_index line i == 13) (ne_eqb (slice_index line i) 10 (λ e. omega arith)) (ne_eqb (slice_index line i) 13 (λ e. omega arith)))
    (cases_lt (slice_index line i) 128)

none_indexed : (p : ℕ → Bool) (xs : List ℕ) → ((i : ℕ) → i < length xs → p (slice_index xs i) ≡ false) → NonePass p xs
none_indexed p [] h = tt
none_indexed p (x ∷ xs) h = (h 0 (omega arith), none_indexed p xs (λ i l. h (suc i) (omega arith)))

index_none : (p : ℕ → Bool) → p 0 ≡ false → (xs : List ℕ) → NonePass p xs → (i : ℕ) → p (slice_index xs i) ≡ false
index_none p nought [] h i = nought
index_none p nought (x ∷ xs) h zero = h.0
index_none p nought (x ∷ xs) h (suc i) = index_none p nought xs h.1 i

bytes_free : (line : List ℕ) → IsLine line → NonePass is_end line
bytes_free line h = none_indexed is_end line (byte_free line h)

no_feed : (line : List ℕ) → IsLine line → NonePass (λ c. c == 10) line
no_feed line h = none_less is_end (λ c. c == 10) (λ c e. (or_parts (c == 10) (c == 13) e).0) line (bytes_free line h)

unstripped : (line : List ℕ) → IsLine line → strip_carriage_return line ≡ line
unstripped line h =
    cond-false (slice_index line (length line - 1) == 13) (take (length line - 1) line) line
    (or_parts (slice_index line (length line - 1) == 10) (slice_index line (length line - 1) == 13) (index_none is_end refl line (bytes_free line h) (length line - 1))).1

split_ended : (texts : List (List ℕ)) → AllByRecursion IsLine texts → slice_split (λ b. b == 10) (flat_map ended texts) ≡ texts ++ [] ∷ []
split_ended [] h = refl
split_ended (text ∷ texts) h =
    ap (slice_split (λ b. b == 10)) (append_assoc text (codes "\n") (flat_map ended texts))
    ∙ (split_at (λ b. b == 10) text 10 (flat_map ended texts) (no_feed text h.0) refl ∙ ap (λ parts. text ∷ parts) (split_ended texts h.1))

parts_kept : (texts : List (List ℕ)) → AllByRecursion IsLine texts → lines_of_parts (texts ++ [] ∷ []) ≡ texts
parts_kept [] h = refl
parts_kept (text ∷ []) h = ap (λ line. line ∷ []) (unstripped text h.0)
parts_kept (text ∷ next ∷ texts) h = ap₂ (λ line more. line ∷ more) (unstripped text h.0) (parts_kept (next ∷ texts) h.1)

pub lines_ended : (texts : List (List ℕ)) → AllByRecursion IsLine texts → lines (flat_map ended texts) ≡ texts
lines_ended texts h = ap lines_of_parts (split_ended texts h) ∙ parts_kept texts h

-- and their text is UTF-8
pub ended_valid : (texts : List (List ℕ)) → AllByRecursion IsLine texts → IsUtf8 (flat_map ended texts)
ended_valid [] h = IsUtf8-nil
ended_valid (text ∷ texts) h =
    IsUtf8-append (ended text) (flat_map ended texts) (IsUtf8-append text (codes "\n") h.0.valid (spells_valid (codes "\n") (codes "\n") (spells_plain (codes "\n") (refl, tt)))) (ended_valid texts h.1)
