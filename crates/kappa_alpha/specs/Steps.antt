-- How many steps a row costs that is put or dropped.
use Rattle.std.specs.Prelude.{ℕ, ◌+◌, ◌*◌, ◌==◌, List, slice_index, Option, Some, None, is_some, count_by, cond, Bool, true, false, if◌then◌else◌}
use Rattle.kappa_alpha.specs.Standing.{Rows, Standing, document_at, sum_below, label_of}

-- how many raters have a row
unfoldable pub standing : Rows → ℕ
standing rows = count_by is_some rows

-- how many raters have a row on a document
abbrev pub raters_on : Standing → ℕ → ℕ
raters_on s d = standing (document_at s.documents d).rows

-- how many of the first n labels of two rows differ
unfoldable pub changed : List ℕ → List ℕ → ℕ → ℕ
changed old new n = sum_below (λ i. if slice_index old i == slice_index new i then 0 else 1) n

-- the most steps that a row in the place of another takes, where m raters have a row
abbrev pub relabel_steps : ℕ → ℕ → ℕ → ℕ
relabel_steps tokens m differing = 2 * tokens + 8 * m * differing

-- the most steps that a row takes which joins m - 1 others or leaves them
abbrev pub join_steps : ℕ → ℕ → ℕ
join_steps tokens m = tokens * (2 * (m * m) + m + 2)

-- whether two labels, each of which may be absent, are one
abbrev pub same_label : Option ℕ → Option ℕ → Bool
same_label None None = true
same_label None (Some y) = false
same_label (Some x) None = false
same_label (Some x) (Some y) = x == y

-- the most steps in which one label takes the place of another, where p other raters label the token
unfoldable pub move_steps : ℕ → Option ℕ → Option ℕ → ℕ
move_steps p None None = 0
move_steps p None (Some y) = p * p + 3 * p + 1
move_steps p (Some x) None = p * p + 3 * p + 1
move_steps p (Some x) (Some y) = 6 * p + 2

-- the most steps that one token takes: a look at each of its two labels, and where they differ one at each other label and the move
unfoldable pub token_steps : ℕ → Option ℕ → Option ℕ → ℕ
token_steps p x y = cond (is_some x) 1 0 + cond (is_some y) 1 0 + (if same_label x y then 0 else p + move_steps p x y)

-- the most steps that the first n tokens take
unfoldable pub row_steps : ℕ → Option (List ℕ) → Option (List ℕ) → ℕ → ℕ
row_steps p old new n = sum_below (λ i. token_steps p (label_of i old) (label_of i new)) n
