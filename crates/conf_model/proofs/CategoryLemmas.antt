-- No part of a list has more items that pass a test than the whole.
use Rattle.std.proofs.Common.{ℕ, ◌≤◌, Bool, List, take, cond, count_by}
use Rattle.std.proofs.lemmas.List.Sums.{sum_by-take-le}

pub count_by_take : {X : Type 0} (p : X → Bool) (n : ℕ) (xs : List X) → count_by p (take n xs) ≤ count_by p xs
count_by_take p n xs = sum_by-take-le (λ x. cond (p x) 1 0) xs n
