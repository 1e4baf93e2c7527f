-- Lists of which each item is there.
use Rattle.std.specs.Prelude.{List, [], ◌∷◌, Option, Some, option_map, option_and_then}

-- each of some, where each is there
abbrev pub all_of : {X : Type 0} → List (Option X) → Option (List X)
all_of [] = Some []
all_of (one ∷ more) = option_and_then (λ x. option_map (λ xs. x ∷ xs) (all_of more)) one
