use Rattle.std.proofs.Common.{◌≡◌, ℕ, suc, zero, ◌+◌, ◌*◌, ◌<◌, ◌≤◌, ◌==◌, cond, Bool, true, false, List, [], ◌∷◌, length, get_or, set, Option, Some, None, refl, arith, sym, ◌∙◌, ap, inl, inr, slice_index, IfSome, length-set}
use Rattle.std.specs.Prelude.{if◌then◌else◌, IfNone}
use Rattle.std.specs.List.{sum_by}
use Rattle.std.specs.Option.{is_some}
use Rattle.std.proofs.lemmas.Bool.{eqb-true, cases_eq}
use Rattle.std.proofs.lemmas.List.{get_or-map, length-map, get_or_default, map-set, get_or-set_same, get_or-set_other, set-set, set-get_or}
use Rattle.std.proofs.lemmas.List.Sums.{sum_by-cons, count_by-le-length, sum_by-set}
use Rattle.kappa_alpha.specs.Columns.{Column, raters_in}
use Rattle.kappa_alpha.specs.Standing.{Rows, sum_below, column_of, label_of, over_tokens}
use Rattle.kappa_alpha.specs.Steps.{standing, changed, same_label, move_steps, token_steps, row_steps, relabel_steps, join_steps}
use Rattle.kappa_alpha.specs.Counted.{RowsFit, RowFits}
use Rattle.kappa_alpha.proofs.Below.{sum_none, sum_more, sum_more_le, sum_zero}

pub over_none : (f : Column → ℕ) (rows : Rows) → over_tokens f rows 0 ≡ 0
unfolding over_tokens
over_none f rows = sum_none _

pub over_more : (f : Column → ℕ) (rows : Rows) (n : ℕ) → over_tokens f rows (n + 1) ≡ over_tokens f rows n + f (column_of rows n)
unfolding over_tokens
over_more f rows n = sum_more _ n

pub over_more_le : (f : Column → ℕ) (rows : Rows) (i n : ℕ) → i < n → over_tokens f rows i + f (column_of rows i) ≤ over_tokens f rows n
unfolding over_tokens
over_more_le f rows i n h = sum_more_le (λ j. f (column_of rows j)) i n h

-- the column of the rows with one more
pub column_set : (rows : Rows) (r i : ℕ) (row : Option (List ℕ)) → column_of (set rows r row) i ≡ set (column_of rows i) r (label_of i row)
column_set rows r i row = map-set (label_of i) rows r row

pub over_more_set : (f : Column → ℕ) (rows : Rows) (r : ℕ) (row : Option (List ℕ)) (i : ℕ) (x : Option ℕ) → x ≡ label_of i row → over_tokens f (set rows r row) (i + 1) ≡ over_tokens f (set rows r row) i + f (set (column_of rows i) r x)
over_more_set f rows r row i x e = over_more f (set rows r row) i ∙ ap (λ t. over_tokens f (set rows r row) i + f t) (column_set rows r i row ∙ ap (set (column_of rows i) r) (sym e))

pub over_more_set_le : (f : Column → ℕ) (rows : Rows) (r : ℕ) (row : Option (List ℕ)) (i n : ℕ) (x : Option ℕ) → i < n → x ≡ label_of i row → over_tokens f (set rows r row) i + f (set (column_of rows i) r x) ≤ over_tokens f (set rows r row) n
over_more_set_le f rows r row i n x h e =
    omega (arith, over_more_le f (set rows r row) i n h, over_more f (set rows r row) i, over_more_set f rows r row i x e)

pub column_none : (rows : Rows) (r i : ℕ) → get_or rows r None ≡ None → get_or (column_of rows i) r None ≡ None
column_none [] r i e = refl
column_none (x ∷ rows) zero i e = ap (label_of i) e
column_none (x ∷ rows) (suc r) i e = column_none rows r i e

-- each token of a document has as many raters as the document has rows
pub raters_column : (rows : Rows) (i : ℕ) → raters_in (column_of rows i) ≡ standing rows
unfolding raters_in standing
raters_column [] i = refl
raters_column (None ∷ rows) i =
    omega (arith, sum_by-cons (λ (x : Option ℕ). cond (is_some x) 1 0) None (column_of rows i), sum_by-cons (λ (x : Option (List ℕ)). cond (is_some x) 1 0) None rows, raters_column rows i)
raters_column (Some row ∷ rows) i =
    omega (arith, sum_by-cons (λ (x : Option ℕ). cond (is_some x) 1 0) (Some (slice_index row i)) (column_of rows i), sum_by-cons (λ (x : Option (List ℕ)). cond (is_some x) 1 0) (Some row) rows, raters_column rows i)

pub standing_le : (rows : Rows) → standing rows ≤ length rows
unfolding standing
standing_le rows = count_by-le-length is_some rows

pub standing_set : (rows : Rows) (r : ℕ) (row : Option (List ℕ)) → r < length rows → get_or rows r None ≡ None → standing (set rows r row) ≡ standing rows + cond (is_some row) 1 0
unfolding standing
standing_set rows r row h e =
    let f : Option (List ℕ) → ℕ = λ x. cond (is_some x) 1 0 in
    let s : sum_by (λ (x : Option (List ℕ)). cond (is_some x) 1 0) (set rows r row) + f (get_or rows r None) ≡ sum_by (λ (x : Option (List ℕ)). cond (is_some x) 1 0) rows + f row = sum_by-set (λ (x : Option (List ℕ)). cond (is_some x) 1 0) rows r row None h in
    let z : f (get_or rows r None) ≡ 0 = ap f e in
    omega (arith, s, z)

-- a rater without a row leaves room for one
pub standing_few : (rows : Rows) (r : ℕ) → r < length rows → get_or rows r None ≡ None → length rows ≤ 16 → standing rows < 16
standing_few rows r h e few =
    let l : length (set rows r (Some [])) ≤ 16 = simp length-set few in
    omega (arith, standing_set rows r (Some []) h e, standing_le (set rows r (Some [])))

pub label_in : (i width : ℕ) (row : Option (List ℕ)) → IfSome row (λ r. slice_index r i < width) → IfSome (label_of i row) (λ y. y < width)
label_in i width None h = tt
label_in i width (Some row) h = h

-- the labels of a column are below the width
pub column_in : (rows : Rows) (tokens width i : ℕ) → RowsFit rows tokens width → i < tokens → (k : ℕ) (d : Option ℕ) → k < length (column_of rows i) → IfSome (get_or (column_of rows i) k d) (λ y. y < width)
column_in rows tokens width i f h k d l =
    let lr : k < length rows = simp length-map at l in
    rw (get_or-map (label_of i) rows k None d lr) (label_in i width (get_or rows k None) (f.labels k i lr h))

pub longer : (i tokens : ℕ) (row : Option (List ℕ)) → i < tokens → IfSome row (λ r. length r ≡ tokens) → IfSome row (λ r. i < length r)
longer i tokens None h e = tt
longer i tokens (Some row) h e = omega (arith, e)

pub long_at : (rows : Rows) (tokens width i : ℕ) → RowsFit rows tokens width → i < tokens → (k : ℕ) (d : Option (List ℕ)) → k < length rows → IfSome (get_or rows k d) (λ row. i < length row)
long_at rows tokens width i f h k d l = rw (get_or_default rows k d None l) (longer i tokens (get_or rows k None) h (f.long k l))

pub same_is : (x y : Option ℕ) → same_label x y ≡ true → x ≡ y
same_is None None e = refl
same_is None (Some y) e = let f : false ≡ true = e in cc
same_is (Some x) None e = let f : false ≡ true = e in cc
same_is (Some x) (Some y) e = ap (λ v. Some v) (eqb-true x y e)

pub steps_none : (p : ℕ) (old new : Option (List ℕ)) → row_steps p old new 0 ≡ 0
unfolding row_steps
steps_none p old new = sum_none _

pub steps_more : (p : ℕ) (old new : Option (List ℕ)) (i : ℕ) → row_steps p old new (i + 1) ≡ row_steps p old new i + token_steps p (label_of i old) (label_of i new)
unfolding row_steps
steps_more p old new i = sum_more _ i

-- the steps of a token, from those of its looks and of its move
pub token_within : (s0 s1 s2 s3 p i t : ℕ) (old new : Option (List ℕ)) (x y : Option ℕ) → x ≡ label_of i old → y ≡ label_of i new → s0 ≤ t + row_steps p old new i → s1 ≡ s0 + cond (is_some x) 1 0 → s2 ≡ s1 + cond (is_some y) 1 0 → s3 ≤ s2 + (if same_label x y then 0 else p + move_steps p x y) → s3 ≤ t + row_steps p old new (i + 1)
unfolding token_steps
token_within s0 s1 s2 s3 p i t old new x y ex ey h h1 h2 h3 =
    let m : row_steps p old new (i + 1) ≡ row_steps p old new i + token_steps p x y = steps_more p old new i ∙ ap (λ v. row_steps p old new i + token_steps p v (label_of i new)) (sym ex) ∙ ap (λ v. row_steps p old new i + token_steps p x v) (sym ey) in
    omega (arith, m, h, h1, h2, h3)

-- the rows with one in the place of another
pub fit_set : (rows : Rows) (r tokens width : ℕ) (row : Option (List ℕ)) → RowsFit rows tokens width → RowFits row tokens width → RowsFit (set rows r row) tokens width
fit_set rows r tokens width row fit e = record {
  long = λ k l. let lk : k < length rows = simp length-set at l in
      elim (cases_eq k r) [
        | inl q ↦ let h : r < length rows = omega arith in rw (q, get_or-set_same rows r row None h) e.long
        | inr q ↦ rw (get_or-set_other rows r k row None q) (fit.long k lk)
      ];
  labels = λ k i l hi. let lk : k < length rows = simp length-set at l in
      elim (cases_eq k r) [
        | inl q ↦ let h : r < length rows = omega arith in rw (q, get_or-set_same rows r row None h) (e.labels i hi)
        | inr q ↦ rw (get_or-set_other rows r k row None q) (fit.labels k i lk hi)
      ];
  few = simp length-set fit.few;
}

-- the rows without one of them
pub fit_out : (rows : Rows) (r tokens width : ℕ) → RowsFit rows tokens width → RowsFit (set rows r None) tokens width
fit_out rows r tokens width fit = fit_set rows r tokens width None fit (record { long = tt; labels = λ i h. tt })

-- a row that stands fits
pub row_out : (rows : Rows) (r tokens width : ℕ) → RowsFit rows tokens width → r < length rows → RowFits (get_or rows r None) tokens width
row_out rows r tokens width fit h = record { long = fit.long r h; labels = λ i hi. fit.labels r i h hi }

-- a row that was taken out is put back
pub set_back : (rows : Rows) (r : ℕ) (row : Option (List ℕ)) → row ≡ get_or rows r None → set (set rows r None) r row ≡ rows
set_back rows r row e = set-set rows r None row ∙ ap (set rows r) e ∙ set-get_or rows r None

-- Bounds of the steps of a row.

changed_more : (old new : List ℕ) (n : ℕ) → changed old new (suc n) ≡ changed old new n + (if slice_index old n == slice_index new n then 0 else 1)
unfolding changed sum_below
changed_more old new n = refl

steps_suc : (p : ℕ) (old new : Option (List ℕ)) (n : ℕ) → row_steps p old new (suc n) ≡ row_steps p old new n + token_steps p (label_of n old) (label_of n new)
unfolding row_steps sum_below
steps_suc p old new n = refl

relabel_token : (b : Bool) (p c : ℕ) → 2 + (if b then 0 else p + (6 * p + 2)) + 8 * (p + 1) * c ≤ 2 + 8 * (p + 1) * (c + (if b then 0 else 1))
relabel_token true p c = omega arith
relabel_token false p c = grind arith

relabel_steps_of : (p x y : ℕ) → token_steps p (Some x) (Some y) ≡ 2 + (if x == y then 0 else p + (6 * p + 2))
unfolding token_steps move_steps
relabel_steps_of p x y = refl

relabel_most : (p : ℕ) (old new : List ℕ) (n : ℕ) → row_steps p (Some old) (Some new) n ≤ 2 * n + 8 * (p + 1) * changed old new n
relabel_most p old new zero = omega (arith, steps_none p (Some old) (Some new))
relabel_most p old new (suc n) =
    let e : 8 * (p + 1) * changed old new (suc n) ≡ 8 * (p + 1) * (changed old new n + (if slice_index old n == slice_index new n then 0 else 1)) = ap (λ t. 8 * (p + 1) * t) (changed_more old new n) in
    omega (arith, e, steps_suc p (Some old) (Some new) n, relabel_most p old new n, relabel_steps_of p (slice_index old n) (slice_index new n), relabel_token (slice_index old n == slice_index new n) p (changed old new n))

join_token : (p : ℕ) → p * p + 4 * p + 2 ≤ 2 * ((p + 1) * (p + 1)) + (p + 1) + 2
join_token p = grind arith

join_steps_of : (p y : ℕ) → token_steps p None (Some y) ≡ 1 + (p + (p * p + 3 * p + 1))
unfolding token_steps move_steps
join_steps_of p y = refl

leave_steps_of : (p x : ℕ) → token_steps p (Some x) None ≡ 1 + 0 + (p + (p * p + 3 * p + 1))
unfolding token_steps move_steps
leave_steps_of p x = refl

more_tokens : (n k : ℕ) → suc n * k ≡ n * k + k
more_tokens n k = grind arith

join_most : (p : ℕ) (new : List ℕ) (n : ℕ) → row_steps p None (Some new) n ≤ join_steps n (p + 1)
join_most p new zero = omega (arith, steps_none p None (Some new))
join_most p new (suc n) =
    omega (arith, steps_suc p None (Some new) n, join_most p new n, join_steps_of p (slice_index new n), join_token p, more_tokens n (2 * ((p + 1) * (p + 1)) + (p + 1) + 2))

leave_most : (p : ℕ) (old : List ℕ) (n : ℕ) → row_steps p (Some old) None n ≤ join_steps n (p + 1)
leave_most p old zero = omega (arith, steps_none p (Some old) None)
leave_most p old (suc n) =
    omega (arith, steps_suc p (Some old) None n, leave_most p old n, leave_steps_of p (slice_index old n), join_token p, more_tokens n (2 * ((p + 1) * (p + 1)) + (p + 1) + 2))

none_steps : (p n : ℕ) → row_steps p None None n ≡ 0
unfolding row_steps token_steps
none_steps p n = sum_zero (λ i. token_steps p None None) n (λ i. refl)

-- the raters of a document, with a row and without
standing_out : (rows : Rows) (r : ℕ) (row : List ℕ) → r < length rows → standing (set rows r (Some row)) ≡ standing (set rows r None) + 1
standing_out rows r row h =
    let l : r < length (set rows r None) = simp length-set h in
    ap standing (sym (set-set rows r None (Some row))) ∙ standing_set (set rows r None) r (Some row) l (get_or-set_same rows r None None h)

-- the steps of a row in the place of another
pub post_again : (rows : Rows) (r : ℕ) (stood : Option (List ℕ)) (row : List ℕ) (n m s t : ℕ) → r < length rows → m ≡ standing (set rows r (Some row)) → s ≤ t + row_steps (standing (set rows r None)) stood (Some row) n → IfSome stood (λ old. s ≤ t + relabel_steps n m (changed old row n))
post_again rows r None row n m s t h e b = tt
post_again rows r (Some old) row n m s t h e b =
    let p : m ≡ standing (set rows r None) + 1 = e ∙ standing_out rows r row h in
    rw p (omega (arith, b, relabel_most (standing (set rows r None)) old row n))

-- the steps of a first row
pub post_first : (rows : Rows) (r : ℕ) (stood : Option (List ℕ)) (row : List ℕ) (n m s t : ℕ) → r < length rows → m ≡ standing (set rows r (Some row)) → s ≤ t + row_steps (standing (set rows r None)) stood (Some row) n → IfNone stood (s ≤ t + join_steps n m)
post_first rows r None row n m s t h e b =
    let p : m ≡ standing (set rows r None) + 1 = e ∙ standing_out rows r row h in
    rw p (omega (arith, b, join_most (standing (set rows r None)) row n))
post_first rows r (Some old) row n m s t h e b = tt

-- the steps of a row that is taken out
pub drop_most : (rows : Rows) (r : ℕ) (stood : Option (List ℕ)) (n s t : ℕ) → r < length rows → stood ≡ get_or rows r None → s ≤ t + row_steps (standing (set rows r None)) stood None n → s ≤ t + join_steps n (standing rows)
drop_most rows r None n s t h e b = omega (arith, b, none_steps (standing (set rows r None)) n)
drop_most rows r (Some old) n s t h e b =
    let p : standing rows ≡ standing (set rows r None) + 1 = ap standing (sym (ap (set rows r) e ∙ set-get_or rows r None)) ∙ standing_out rows r old h in
    rw p (omega (arith, b, leave_most (standing (set rows r None)) old n))
