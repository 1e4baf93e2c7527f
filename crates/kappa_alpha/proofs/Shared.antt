use Rattle.std.proofs.Common.{◌≡◌, ℕ, suc, zero, ◌+◌, ◌*◌, ◌-◌, ◌<◌, ◌≤◌, ◌==◌, ◌&&◌, List, [], ◌∷◌, length, get_or, Option, Some, None, refl, arith, sym, ◌∙◌, ap, IfSome}
use Rattle.std.specs.Prelude.{if◌then◌else◌}
use Rattle.std.specs.Option.{is_some}
use Rattle.std.proofs.lemmas.Bool.{ne_eqb, and_left, and_right}
use Rattle.std.proofs.lemmas.List.{length-map}
use Rattle.std.proofs.lemmas.List.Sums.{sum_by-cons}
use Rattle.kappa_alpha.specs.Columns.{Column, worth, confusion_at, shared_at}
use Rattle.kappa_alpha.specs.Standing.{Rows, Document, column_of, document_at, sum_below, over_tokens, over_all, confusion_of, shared_of}
use Rattle.kappa_alpha.specs.Figures.{row_sum, column_sum, cells_sum, chance, diagonal, same_pairs}
use Rattle.kappa_alpha.specs.Counted.{RowsFit, DocumentFits}
use Rattle.kappa_alpha.proofs.Below.{sum_one, sum_zero, sum_same}
use Rattle.kappa_alpha.proofs.RowLaws.{column_in}
use Rattle.kappa_alpha.proofs.Shares.{none_worth, worth_none}
use Rattle.kappa_alpha.proofs.Worth.{worth_elsewhere, worth_self}

-- Laws of sums of functions of the column.

sum_of : (p q r s : ℕ) → p ≡ r → q ≡ s → p + q ≡ r + s
sum_of p q r s e f = omega (arith, e, f)

tokens_plus : (f g : Column → ℕ) (rows : Rows) (n : ℕ) → over_tokens (λ column. f column + g column) rows n ≡ over_tokens f rows n + over_tokens g rows n
unfolding over_tokens sum_below
tokens_plus f g rows zero = refl
tokens_plus f g rows (suc n) = omega (arith, tokens_plus f g rows n)

tokens_zero : (rows : Rows) (n : ℕ) → over_tokens (λ column. 0) rows n ≡ 0
unfolding over_tokens sum_below
tokens_zero rows zero = refl
tokens_zero rows (suc n) = omega (arith, tokens_zero rows n)

all_cons : (f : Column → ℕ) (document : Document) (documents : List Document) → over_all f (document ∷ documents) ≡ over_tokens f document.rows document.tokens + over_all f documents
unfolding over_all
all_cons f document documents = sum_by-cons (λ (d : Document). over_tokens f d.rows d.tokens) document documents

all_none : (f : Column → ℕ) → over_all f [] ≡ 0
unfolding over_all
all_none f = refl

all_plus : (f g : Column → ℕ) (documents : List Document) → over_all (λ column. f column + g column) documents ≡ over_all f documents + over_all g documents
all_plus f g [] = omega (arith, all_none f, all_none g, all_none (λ column. f column + g column))
all_plus f g (d ∷ documents) =
    omega (arith, all_cons (λ column. f column + g column) d documents, all_cons f d documents, all_cons g d documents, tokens_plus f g d.rows d.tokens, all_plus f g documents)

all_zero : (documents : List Document) → over_all (λ column. 0) documents ≡ 0
all_zero [] = all_none (λ column. 0)
all_zero (d ∷ documents) = omega (arith, all_cons (λ column. 0) d documents, tokens_zero d.rows d.tokens, all_zero documents)

-- the sum of many functions is the sum of their sums
pub sum_over : (f : ℕ → Column → ℕ) (n : ℕ) (documents : List Document) → sum_below (λ i. over_all (f i) documents) n ≡ over_all (λ column. sum_below (λ i. f i column) n) documents
unfolding sum_below
sum_over f zero documents = sym (all_zero documents)
sum_over f (suc n) documents =
    sum_of _ _ _ _ (sum_over f n documents) refl ∙ sym (all_plus (λ column. sum_below (λ i. f i column) n) (f n) documents)

-- functions that agree at each column of labels below the width
tokens_same : (f g : Column → ℕ) (rows : Rows) (tokens width n : ℕ) → RowsFit rows tokens width → n ≤ tokens → ((column : Column) → length column ≡ length rows → ((k : ℕ) (d : Option ℕ) → k < length column → IfSome (get_or column k d) (λ y. y < width)) → f column ≡ g column) → over_tokens f rows n ≡ over_tokens g rows n
unfolding over_tokens sum_below
tokens_same f g rows tokens width zero fit h same = refl
tokens_same f g rows tokens width (suc n) fit h same =
    omega (arith, tokens_same f g rows tokens width n fit (omega arith) same, same (column_of rows n) (simp length-map) (column_in rows tokens width n fit (omega arith)))

pub all_same : (f g : Column → ℕ) (raters width : ℕ) (documents : List Document) → ((d : ℕ) → d < length documents → DocumentFits (document_at documents d) raters width) → ((column : Column) → length column ≡ raters → ((k : ℕ) (d : Option ℕ) → k < length column → IfSome (get_or column k d) (λ y. y < width)) → f column ≡ g column) → over_all f documents ≡ over_all g documents
all_same f g raters width [] fit same = omega (arith, all_none f, all_none g)
all_same f g raters width (d ∷ documents) fit same =
    let one : DocumentFits d raters width = fit zero (omega arith) in
    omega (
      arith,
      all_cons f d documents,
      all_cons g d documents,
      tokens_same f g d.rows d.tokens width d.tokens one.rows (omega arith) (λ column e i. same column (e ∙ one.whole) i),
      all_same f g raters width documents (λ e l. fit (suc e) (omega arith)) same,
    )

-- The cells of a contingency table sum to the tokens that both raters label.

cells_one : (w x y : ℕ) → x < w → y < w → sum_below (λ c. sum_below (λ k. worth 1 c k (Some x) (Some y)) w) w ≡ 1
cells_one w x y hx hy =
    sum_one (λ c. sum_below (λ k. worth 1 c k (Some x) (Some y)) w) x w
    (λ c h. sum_zero (λ k. worth 1 c k (Some x) (Some y)) w (λ k. worth_elsewhere 1 c k x y (and_left (c == x) (k == y) (ne_eqb c x h)))) hx
    ∙ sum_one (λ k. worth 1 x k (Some x) (Some y)) y w
    (λ k h. worth_elsewhere 1 x k x y (and_right (x == x) (k == y) (ne_eqb k y h))) hy
    ∙ worth_self 1 x y

cells_met : (w : ℕ) (x y : Option ℕ) → IfSome x (λ v. v < w) → IfSome y (λ v. v < w) → sum_below (λ c. sum_below (λ k. worth 1 c k x y) w) w ≡ (if is_some x && is_some y then 1 else 0)
cells_met w None y hx hy = sum_zero (λ c. sum_below (λ k. worth 1 c k None y) w) w (λ c. sum_zero (λ k. worth 1 c k None y) w (λ k. none_worth 1 c k y))
cells_met w (Some x) None hx hy = sum_zero (λ c. sum_below (λ k. worth 1 c k (Some x) None) w) w (λ c. sum_zero (λ k. worth 1 c k (Some x) None) w (λ k. worth_none 1 c k (Some x)))
cells_met w (Some x) (Some y) hx hy = cells_one w x y hx hy

cells_at : (a b width raters : ℕ) (column : Column) → a < raters → b < raters → length column ≡ raters → ((k : ℕ) (d : Option ℕ) → k < length column → IfSome (get_or column k d) (λ y. y < width)) → sum_below (λ c. sum_below (λ k. confusion_at a b c k column) width) width ≡ shared_at a b column
unfolding confusion_at shared_at
cells_at a b width raters column ha hb e i = cells_met width (get_or column a None) (get_or column b None) (i a None (omega (arith, e, ha))) (i b None (omega (arith, e, hb)))

pub cells_shared : (a b width raters : ℕ) (documents : List Document) → ((d : ℕ) → d < length documents → DocumentFits (document_at documents d) raters width) → a < raters → b < raters → cells_sum (confusion_of documents a b) width width ≡ shared_of documents a b
unfolding cells_sum row_sum
cells_shared a b width raters documents fit ha hb =
    sum_same (λ c. sum_below (λ k. confusion_of documents a b c k) width) (λ c. over_all (λ column. sum_below (λ k. confusion_at a b c k column) width) documents) width
    (λ c. sum_over (λ k column. confusion_at a b c k column) width documents)
    ∙ sum_over (λ c column. sum_below (λ k. confusion_at a b c k column) width) width documents
    ∙ all_same (λ column. sum_below (λ c. sum_below (λ k. confusion_at a b c k column) width) width) (shared_at a b) raters width documents fit
    (λ column e i. cells_at a b width raters column ha hb e i)

-- Tables that agree below the width have the same sums.

same_below : (f g : ℕ → ℕ) (n : ℕ) → ((i : ℕ) → i < n → f i ≡ g i) → sum_below f n ≡ sum_below g n
unfolding sum_below
same_below f g zero h = refl
same_below f g (suc n) h = omega (arith, h n (omega arith), same_below f g n (λ i l. h i (omega arith)))

pub diagonal_same : (f g : ℕ → ℕ → ℕ) (w : ℕ) → ((c k : ℕ) → c < w → k < w → f c k ≡ g c k) → diagonal f w ≡ diagonal g w
unfolding diagonal
diagonal_same f g w h = same_below (λ c. f c c) (λ c. g c c) w (λ c l. h c c l l)

row_same : (f g : ℕ → ℕ → ℕ) (w k : ℕ) → k < w → ((c k : ℕ) → c < w → k < w → f c k ≡ g c k) → row_sum f k w ≡ row_sum g k w
unfolding row_sum
row_same f g w k hk h = same_below (λ j. f k j) (λ j. g k j) w (λ j l. h k j hk l)

column_same : (f g : ℕ → ℕ → ℕ) (w k : ℕ) → k < w → ((c k : ℕ) → c < w → k < w → f c k ≡ g c k) → column_sum f k w ≡ column_sum g k w
unfolding column_sum
column_same f g w k hk h = same_below (λ j. f j k) (λ j. g j k) w (λ j l. h j k l hk)

pub cells_same : (f g : ℕ → ℕ → ℕ) (w : ℕ) → ((c k : ℕ) → c < w → k < w → f c k ≡ g c k) → cells_sum f w w ≡ cells_sum g w w
unfolding cells_sum
cells_same f g w h = same_below (λ k. row_sum f k w) (λ k. row_sum g k w) w (λ k l. row_same f g w k l h)

pub chance_same : (f g : ℕ → ℕ → ℕ) (w : ℕ) → ((c k : ℕ) → c < w → k < w → f c k ≡ g c k) → chance f w w ≡ chance g w w
unfolding chance
chance_same f g w h =
    same_below (λ k. row_sum f k w * column_sum f k w) (λ k. row_sum g k w * column_sum g k w) w
    (λ k l. ap (λ v. v * column_sum f k w) (row_same f g w k l h) ∙ ap (λ v. row_sum g k w * v) (column_same f g w k l h))

pub counts_same : (t : ℕ → ℕ → ℕ) (g : ℕ → ℕ) (w : ℕ) → ((c : ℕ) → c < w → t c c ≡ g c) → diagonal t w ≡ sum_below g w
unfolding diagonal
counts_same t g w h = same_below (λ c. t c c) g w h

pub same_pairs_same : (f g : ℕ → ℕ) (w : ℕ) → ((c : ℕ) → c < w → f c ≡ g c) → same_pairs f w ≡ same_pairs g w
unfolding same_pairs
same_pairs_same f g w h = same_below (λ c. f c * (f c - 1)) (λ c. g c * (g c - 1)) w (λ c l. ap (λ v. v * (v - 1)) (h c l))
