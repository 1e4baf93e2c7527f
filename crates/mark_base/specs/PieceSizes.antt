-- In pieces of which sizes a source in memory gives its bytes.
use Rattle.std.specs.Prelude.{ℕ, ◌-◌, ◌^◌, List, [], ◌∷◌}

-- the size of the next piece; past the sizes a piece has any size
abbrev pub next_size : List ℕ → ℕ
next_size [] = 2 ^ 64 - 1
next_size (size ∷ sizes) = size
