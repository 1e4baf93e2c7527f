use Rattle.std.proofs.Common.{◌≡◌, ℕ, ◌+◌, ◌<◌, ◌≤◌, cond, List, [], ◌∷◌, ◌++◌, length, get_or, take, set, Option, arith, sym, ◌∙◌, ap}
use Rattle.std.specs.Option.{is_some}
use Rattle.std.proofs.lemmas.List.{take_more, take_more_set, get_or-map, length-map, take_all}
use Rattle.std.proofs.lemmas.List.Sums.{sum_by_push}
use Rattle.kappa_alpha.specs.Steps.{standing}
use Rattle.kappa_alpha.proofs.RowLaws.{raters_column}
use Rattle.kappa_alpha.specs.Columns.{raters_in}
use Rattle.kappa_alpha.specs.Standing.{column_of, label_of}

pub raters_push : (col : List (Option ℕ)) (v : Option ℕ) → raters_in (col ++ v ∷ []) ≡ raters_in col + cond (is_some v) 1 0
unfolding raters_in
raters_push col v = sum_by_push (λ x. cond (is_some x) 1 0) col v

pub raters_written : (col : List (Option ℕ)) (s : ℕ) (v : Option ℕ) → s < length col → raters_in (take (s + 1) (set col s v)) ≡ raters_in (take s col) + cond (is_some v) 1 0
raters_written col s v h = ap raters_in (take_more_set col s v h) ∙ raters_push (take s col) v

pub column_step : (col : List (Option ℕ)) (rows : List (Option (List ℕ))) (i s : ℕ) (v : Option ℕ) (row : Option (List ℕ)) → s < length col → length col ≡ length rows → take s col ≡ take s (column_of rows i) → row ≡ get_or rows s row → v ≡ label_of i row → take (s + 1) (set col s v) ≡ take (s + 1) (column_of rows i)
column_step col rows i s v row h e front is value =
    let hm : s < length (column_of rows i) = simp length-map (omega arith) in
    let g : get_or (column_of rows i) s (label_of i row) ≡ label_of i row = get_or-map (label_of i) rows s row (label_of i row) (omega arith) ∙ ap (label_of i) (sym is) in
    take_more_set col s v h
    ∙ ap (λ t. t ++ v ∷ []) front
    ∙ ap (λ t. take s (column_of rows i) ++ t ∷ []) (value ∙ sym g)
    ∙ sym (take_more (column_of rows i) s (label_of i row) hm)

pub all_raters : (col : List (Option ℕ)) (rows : List (Option (List ℕ))) (i s : ℕ) → length col ≡ length rows → take s col ≡ take s (column_of rows i) → length rows ≤ s → raters_in col ≡ standing rows
all_raters col rows i s e front h =
    let hm : length (column_of rows i) ≤ s = simp length-map h in
    ap raters_in (sym (take_all s col (omega arith)) ∙ front ∙ take_all s (column_of rows i) hm) ∙ raters_column rows i

pub all_taken : (w : ℕ) (col : List (Option ℕ)) (s : ℕ) → length col ≤ s → raters_in (take s col) ≡ raters_in col
all_taken w col s h = ap raters_in (take_all s col h)
