-- A text has about half as many tokens as characters at the most, so a project within its limits has room in the tables.
use Rattle.std.proofs.Common.{◌≡◌, ℕ, ◌+◌, ◌*◌, ◌<◌, ◌≤◌, ◌==◌, ◌||◌, Bool, true, false, List, [], ◌∷◌, length, map, sum, sum_by, nat_lt, nat_le, suc, refl, sym, ◌∙◌, arith, eq-eqb}
use Rattle.std.specs.Char.{is_whitespace}
use Rattle.std.proofs.lemmas.Bool.{cond_both, ltb-false}
use Rattle.std.proofs.lemmas.List.Sums.{sum_by-cons}
use Rattle.mark_base.specs.declared.fragments.Frag.{Frag}
use Rattle.char_documents.specs.Tokens.{join_run, tokens_from, tokens_of}
use Rattle.kappa_alpha.specs.Standing as tables
use Rattle.kappa_alpha.specs.Standing.{tokens_in}
use Rattle.project_machine.specs.ProjectState.{Document, ProjectState}
use Rattle.project_machine.specs.Tables.{labelled}

true_false : true ≡ false → ⊥
true_false e = cc

-- the first token starts at a place
abbrev starts : ℕ → List Frag → Bool
starts place [] = false
starts place (token ∷ tokens) = token.start == place

-- tokens of so many characters: one for each two of them, and one more only where the first starts with the first character
record Half (place characters : ℕ) (tokens : List Frag) : Type 0 where
  all : 2 * length tokens ≤ characters + 1
  fewer : starts place tokens ≡ false → 2 * length tokens ≤ characters

begins : (place n : ℕ) (P : Type 0) → (place == place) ≡ false → P
begins place n P e = absurd (true_false (sym (eq-eqb place place refl) ∙ e))

join_half : (place characters : ℕ) (tokens : List Frag) → Half (place + 1) characters tokens → Half place (suc characters) (join_run place (place + 1) tokens)
join_half place characters [] h = record { all = omega arith; fewer = λ e. begins place 0 (2 * 1 ≤ suc characters) e }
join_half place characters (token ∷ tokens) h =
    cond_both (token.start == place + 1) (record { start = place; end = token.end } ∷ tokens) (record { start = place; end = place + 1 } ∷ token ∷ tokens) (Half place (suc characters))
    (λ at. record { all = let most : 2 * length (token ∷ tokens) ≤ characters + 1 = h.all in omega arith; fewer = λ e. begins place 0 (2 * length (token ∷ tokens) ≤ suc characters) e })
    (λ apart. record { all = let most : 2 * length (token ∷ tokens) ≤ characters = h.fewer apart in omega arith; fewer = λ e. begins place 0 (2 * length (token ∷ token ∷ tokens) ≤ suc characters) e })

half : (place : ℕ) (text : List ℕ) → Half place (length text) (tokens_from place text)
half place [] = record { all = omega arith; fewer = λ e. omega arith }
half place (c ∷ cs) =
    let rest : Half (place + 1) (length cs) (tokens_from (place + 1) cs) = half (place + 1) cs in
    let most : 2 * length (tokens_from (place + 1) cs) ≤ length cs + 1 = rest.all in
    cond_both (is_whitespace c) (tokens_from (place + 1) cs) (join_run place (place + 1) (tokens_from (place + 1) cs)) (Half place (suc (length cs)))
    (λ blank. record { all = omega arith; fewer = λ e. omega arith })
    (λ mark. join_half place (length cs) (tokens_from (place + 1) cs) rest)

pub few_tokens : (text : List ℕ) → 2 * length (tokens_of text) ≤ length text + 1
unfolding tokens_of
few_tokens text = (half 0 text).all

pub few_labelled : (s : ProjectState) (documents : List Document) → 2 * sum_by (λ (d : tables.Document). d.tokens) (map (labelled s) documents) ≤ sum (map (λ (d : Document). length d.text) documents) + length documents
few_labelled s [] = omega arith
few_labelled s (d ∷ documents) =
    let one : 2 * length (tokens_of d.text) ≤ length d.text + 1 = few_tokens d.text in
    let rest : 2 * sum_by (λ (d : tables.Document). d.tokens) (map (labelled s) documents) ≤ sum (map (λ (d : Document). length d.text) documents) + length documents = few_labelled s documents in
    let tokens : sum_by (λ (d : tables.Document). d.tokens) (map (labelled s) (d ∷ documents)) ≡ length (tokens_of d.text) + sum_by (λ (d : tables.Document). d.tokens) (map (labelled s) documents) = sum_by-cons (λ (d : tables.Document). d.tokens) (labelled s d) (map (labelled s) documents) in
    let characters : sum (map (λ (d : Document). length d.text) (d ∷ documents)) ≡ length d.text + sum (map (λ (d : Document). length d.text) documents) = sum_by-cons (λ (x : ℕ). x) (length d.text) (map (λ (d : Document). length d.text) documents) in
    omega arith

few_tabled : (s : ProjectState) → 2 * tokens_in (map (labelled s) s.documents) ≤ sum (map (λ (d : Document). length d.text) s.documents) + length s.documents
unfolding tokens_in
few_tabled s = few_labelled s s.documents

or_low : (a b : Bool) → (a || b) ≡ false → (a ≡ false) × (b ≡ false)
or_low true b e = absurd (true_false e)
or_low false b e = (refl, e)

-- a document for which a project has room has room in its tables
pub has_spare : (s : ProjectState) (text : List ℕ) → (nat_le 4096 (length s.documents) || nat_lt 16777216 (sum (map (λ d. length d.text) s.documents) + length text)) ≡ false
    → (length s.documents < 4096) × (tokens_in (map (labelled s) s.documents) + length (tokens_of text) ≤ 8390656)
has_spare s text room =
    let both = or_low (nat_le 4096 (length s.documents)) (nat_lt 16777216 (sum (map (λ d. length d.text) s.documents) + length text)) room in
    let few : length s.documents < 4096 = le_false 4096 (length s.documents) both.0 in
    let low : sum (map (λ d. length d.text) s.documents) + length text ≤ 16777216 = ltb-false 16777216 (sum (map (λ d. length d.text) s.documents) + length text) both.1 in
    let tabled : 2 * tokens_in (map (labelled s) s.documents) ≤ sum (map (λ (d : Document). length d.text) s.documents) + length s.documents = few_tabled s in
    let one : 2 * length (tokens_of text) ≤ length text + 1 = few_tokens text in
    (few, omega arith)
  where
    le_false : (a b : ℕ) → nat_le a b ≡ false → b < a
    le_false a b e = grind (arith, e)
