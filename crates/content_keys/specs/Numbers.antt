-- Lists as numbers, one to one, and bags of numbers.
use Rattle.std.specs.Prelude.{ℕ, suc, ◌+◌, ◌*◌, List, [], ◌∷◌, cond, nat_le}

-- a pair as a number, one to one
unfoldable pub paired : ℕ → ℕ → ℕ
paired a b = (a + b) * (a + b) + a

-- a list as a number, one to one
unfoldable pub listed : List ℕ → ℕ
unfolding paired
listed [] = 0
listed (x ∷ xs) = suc (paired x (listed xs))

-- a number put before the first that is not below it
abbrev pub put_in : ℕ → List ℕ → List ℕ
put_in x [] = x ∷ []
put_in x (y ∷ ys) = cond (nat_le x y) (x ∷ y ∷ ys) (y ∷ put_in x ys)

-- the numbers in ascending order: two lists with the same bag of numbers have one
abbrev pub sorted : List ℕ → List ℕ
sorted [] = []
sorted (x ∷ xs) = put_in x (sorted xs)
