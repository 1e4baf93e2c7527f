-- What is read of the tables of a project.
use Rattle.std.proofs.Common.{◌≡◌, ℕ, ◌+◌, ◌-◌, ◌≤◌, List, [], ◌∷◌, ◌++◌, length, map, refl, sym, ◌∙◌, ap, arith, append-nil, append_assoc, map-id, zero-add}
use Rattle.std.specs.List.{flat_map, range_with_len}
use Rattle.std.proofs.lemmas.List.Concat.{flat_map-append}
use Rattle.std.proofs.lemmas.List.FromFn.{map-range_with_len_more}
use Rattle.kappa_alpha.specs.Standing.{Standing}
use Rattle.kappa_alpha.specs.Figures.{alpha_line, pair_line}
use Rattle.kappa_alpha.specs.declared.figures.PairLine.{PairLine}
use Rattle.kappa_alpha.specs.declared.figures.AlphaLine.{AlphaLine}
use Rattle.project_machine.specs.ProjectState.{ProjectState}
use Rattle.project_machine.specs.Tables.{all_line, pair_lines, standing_of}

-- the lines of each two raters of a table
abbrev all_pairs : Standing → List PairLine
all_pairs t = flat_map (λ first. map (pair_line t first) (range_with_len (first + 1) (t.raters - first - 1))) (range_with_len 0 t.raters)

pub lines_of_standing : (s : ProjectState) (t : Standing) → t ≡ standing_of s t.spare → all_pairs t ≡ pair_lines s
lines_of_standing s t is = ap all_pairs is

pub line_of_standing : (s : ProjectState) (t : Standing) → t ≡ standing_of s t.spare → alpha_line t ≡ all_line s
line_of_standing s t is = ap (λ (u : Standing). alpha_line u) is

-- ---- lines that are pushed in turn

-- the lines of a rater with each later one
abbrev lines_with : Standing → ℕ → List PairLine
lines_with t first = map (pair_line t first) (range_with_len (first + 1) (t.raters - first - 1))

-- the lines of a rater with each later one below another are behind those from before
abbrev pub LinesSoFar : Standing → ℕ → List PairLine → List PairLine → ℕ → Type 0
LinesSoFar t first before now second = now ≡ before ++ map (pair_line t first) (range_with_len (first + 1) (second - (first + 1)))

pub no_lines : (t : Standing) (first : ℕ) (before : List PairLine) → LinesSoFar t first before before (first + 1)
no_lines t first before =
    let none : first + 1 - (first + 1) ≡ 0 = omega arith in
    sym (ap (λ (n : ℕ). before ++ map (pair_line t first) (range_with_len (first + 1) n)) none ∙ append-nil before)

pub one_line : (t : Standing) (first second : ℕ) (before now after : List PairLine) (line : PairLine) → first + 1 ≤ second → LinesSoFar t first before now second → line ≡ pair_line t first second → after ≡ now ++ line ∷ [] → LinesSoFar t first before after (second + 1)
one_line t first second before now after line low front is more =
    let next : second + 1 - (first + 1) ≡ (second - (first + 1)) + 1 = omega arith in
    let place : (first + 1) + (second - (first + 1)) ≡ second = omega arith in
    more ∙ (ap (λ (ls : List PairLine). ls ++ line ∷ []) front ∙ (append_assoc before (map (pair_line t first) (range_with_len (first + 1) (second - (first + 1)))) (line ∷ [])
    ∙ (ap (λ (one : PairLine). before ++ (map (pair_line t first) (range_with_len (first + 1) (second - (first + 1))) ++ one ∷ [])) is
    ∙ (ap (λ (ls : List PairLine). before ++ ls) (sym (map-range_with_len_more (pair_line t first) (first + 1) (second - (first + 1)) second place))
    ∙ ap (λ (n : ℕ). before ++ map (pair_line t first) (range_with_len (first + 1) n)) (sym next)))))

pub all_lines : (t : Standing) (first second : ℕ) (before now : List PairLine) → second ≡ t.raters → LinesSoFar t first before now second → now ≡ before ++ lines_with t first
all_lines t first second before now is front =
    let same : second - (first + 1) ≡ t.raters - first - 1 = omega arith in
    front ∙ ap (λ (n : ℕ). before ++ map (pair_line t first) (range_with_len (first + 1) n)) same

-- the lines of each rater below another with each later one
abbrev pub AllSoFar : Standing → List PairLine → ℕ → Type 0
AllSoFar t now first = now ≡ flat_map (lines_with t) (range_with_len 0 first)

one_place : (first : ℕ) → range_with_len 0 (first + 1) ≡ range_with_len 0 first ++ first ∷ []
one_place first =
    sym (map-id (range_with_len 0 (first + 1)))
    ∙ (map-range_with_len_more (λ (n : ℕ). n) 0 first first (zero-add first) ∙ ap (λ (ns : List ℕ). ns ++ first ∷ []) (map-id (range_with_len 0 first)))

pub one_more : (t : Standing) (first : ℕ) (now after : List PairLine) → AllSoFar t now first → after ≡ now ++ lines_with t first → AllSoFar t after (first + 1)
one_more t first now after front is =
    is ∙ (ap (λ (ls : List PairLine). ls ++ lines_with t first) front ∙ (ap (λ (ls : List PairLine). flat_map (lines_with t) (range_with_len 0 first) ++ ls) (sym (append-nil (lines_with t first)))
    ∙ (sym (flat_map-append (lines_with t) (range_with_len 0 first) (first ∷ [])) ∙ ap (flat_map (lines_with t)) (sym (one_place first)))))
