-- Rows that are written in turn.
use Rattle.std.proofs.Common.{◌≡◌, ℕ, ◌+◌, ◌-◌, ◌≤◌, List, [], ◌∷◌, ◌++◌, sym, ◌∙◌, ap, arith, map-id}
use Rattle.std.specs.List.{flat_map, range_with_len}
use Rattle.std.proofs.lemmas.List.{flat_map_more}
use Rattle.std.proofs.lemmas.List.FromFn.{map-range_with_len_more}

-- some numbers from one on, and the next
one_more : (from count next : ℕ) → from + count ≡ next → range_with_len from (count + 1) ≡ range_with_len from count ++ next ∷ []
one_more from count next is =
    sym (map-id (range_with_len from (count + 1)))
    ∙ (map-range_with_len_more (λ (n : ℕ). n) from count next is ∙ ap (λ (ns : List ℕ). ns ++ next ∷ []) (map-id (range_with_len from count)))

-- the rows of each number from one on below another stand behind what was written before
abbrev pub RowsSoFar : (ℕ → List ℕ) → ℕ → List ℕ → List ℕ → ℕ → Type 0
RowsSoFar rows from before now next = now ≡ before ++ flat_map rows (range_with_len from (next - from))

pub one_row : (rows : ℕ → List ℕ) (from next : ℕ) (before now after : List ℕ) → from ≤ next → RowsSoFar rows from before now next → after ≡ now ++ rows next → RowsSoFar rows from before after (next + 1)
one_row rows from next before now after low front more =
    let behind : next + 1 - from ≡ (next - from) + 1 = omega arith in
    let place : from + (next - from) ≡ next = omega arith in
    more ∙ (ap (λ (bytes : List ℕ). bytes ++ rows next) front ∙ (flat_map_more rows before (range_with_len from (next - from)) next
    ∙ (ap (λ (ns : List ℕ). before ++ flat_map rows ns) (sym (one_more from (next - from) next place))
    ∙ ap (λ (n : ℕ). before ++ flat_map rows (range_with_len from n)) (sym behind))))
