-- What the raters gave to one token, and what is counted of it.
use Rattle.std.specs.Prelude.{ℕ, ◌+◌, ◌-◌, ◌/◌, ◌<◌, ◌==◌, ◌&&◌, List, [], ◌∷◌, get_or, if◌then◌else◌, nat_lt}
use Rattle.std.specs.Prelude.{Bool, false, Option, Some, None, is_some, sum_by, count_by, All, IfSome}

-- A column is what the raters gave to one token, in their order: a label, or None of one without a row.
abbrev pub Column : Type 0
Column = List (Option ℕ)

-- a label, if there is one, is below the number of categories
abbrev pub IsBelow : ℕ → Option ℕ → Type 0
IsBelow width label = IfSome label (λ y. y < width)

-- every label of a column is
abbrev pub AreBelow : ℕ → Column → Type 0
AreBelow width column = All (λ label. IfSome label (λ y. y < width)) column

-- how many raters label the token
unfoldable pub raters_in : Column → ℕ
raters_in column = count_by is_some column

-- what the ordered pair of labels (x, y) adds to the cell (c, k): w where it is that pair
unfoldable pub worth : ℕ → ℕ → ℕ → Option ℕ → Option ℕ → ℕ
worth w c k None y = 0
worth w c k (Some x) None = 0
worth w c k (Some x) (Some y) = if (c == x) && (k == y) then w else 0

-- the same for the pair in both its orders
abbrev pub both : ℕ → ℕ → ℕ → Option ℕ → Option ℕ → ℕ
both w c k x y = worth w c k x y + worth w c k y x

-- a label paired with each of the others, in both orders
unfoldable pub toward : ℕ → ℕ → ℕ → Option ℕ → Column → ℕ
toward w c k x others = sum_by (both w c k x) others

-- every ordered pair of different raters of a column
unfoldable pub ordered : ℕ → ℕ → ℕ → Column → ℕ
ordered w c k [] = 0
ordered w c k (x ∷ xs) = toward w c k x xs + ordered w c k xs

-- What a pair of m raters counts: 360360 / (m - 1), so that a token of m raters counts m in all.
-- 360360 is the least common multiple of 1 to 15: with up to 16 raters this is a whole number.
unfoldable pub weight : ℕ → ℕ
weight m = if nat_lt m 2 then 0 else 360360 / (m - 1)

-- Krippendorff's coincidence of the labels c and k at one token, 360360 times
unfoldable pub coincidence_at : ℕ → ℕ → Column → ℕ
coincidence_at c k column = ordered (weight (raters_in column)) c k column

-- whether a rater gave the label c
abbrev pub is_label : ℕ → Option ℕ → Bool
is_label c None = false
is_label c (Some x) = c == x

-- how many raters give the label c to a token that two raters or more label
unfoldable pub label_at : ℕ → Column → ℕ
label_at c column = if nat_lt (raters_in column) 2 then 0 else count_by (is_label c) column

-- 1 where two raters or more label the token: only such a token can be agreed on
unfoldable pub unit_at : Column → ℕ
unit_at column = if nat_lt (raters_in column) 2 then 0 else 1

-- 1 where rater a gives the label c and rater b the label k: the cell of Cohen's contingency table
unfoldable pub confusion_at : ℕ → ℕ → ℕ → ℕ → Column → ℕ
confusion_at a b c k column = worth 1 c k (get_or column a None) (get_or column b None)

-- 1 where both raters label the token
unfoldable pub shared_at : ℕ → ℕ → Column → ℕ
shared_at a b column =
    if is_some (get_or column a None) && is_some (get_or column b None) then 1 else 0
