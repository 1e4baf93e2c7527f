-- Lists for the numbers from 0, one behind another.
use Rattle.std.specs.Prelude.{ℕ, List}
use Rattle.std.specs.List.{flat_map, range_with_len}

-- the lists for the first n numbers
unfoldable pub joined : {X : Type 0} → (ℕ → List X) → ℕ → List X
joined f n = flat_map f (range_with_len 0 n)
