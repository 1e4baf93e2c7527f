-- A standing that was worked out by hand.
use Rattle.std.specs.Prelude.{ℕ, List, [], ◌∷◌, Some, None}
use Rattle.kappa_alpha.specs.Standing.{Rows, Standing}

-- Four tokens: ann labels two of them, bob the first, cid the first and the last.
abbrev pub ann : List ℕ
ann = 1 ∷ 1 ∷ 0 ∷ 0 ∷ []

-- the second rater's row
abbrev pub bob : List ℕ
bob = 1 ∷ 0 ∷ 0 ∷ 0 ∷ []

-- the third rater's row
abbrev pub cid : List ℕ
cid = 1 ∷ 0 ∷ 0 ∷ 1 ∷ []

-- a row of a rater who labels nothing
abbrev pub no_labels : List ℕ
no_labels = 0 ∷ 0 ∷ 0 ∷ 0 ∷ []

-- one document of four tokens, two categories, three raters
abbrev pub standing_of : Rows → Standing
standing_of rows = record { raters = 3; categories = 2; documents = (record { tokens = 4; rows = rows }) ∷ []; spare = 0 }

-- the first two raters have a row
abbrev pub two_raters : Standing
two_raters = standing_of (Some ann ∷ Some bob ∷ None ∷ [])

-- all three have one
abbrev pub three_raters : Standing
three_raters = standing_of (Some ann ∷ Some bob ∷ Some cid ∷ [])

-- two raters who label nothing: no two labels could differ
abbrev pub no_difference : Standing
no_difference = standing_of (Some no_labels ∷ Some no_labels ∷ None ∷ [])
