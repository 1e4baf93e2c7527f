-- The numbers of the annotations of one letter.
use Rattle.std.specs.Prelude.{◌≡◌, ℕ, ◌≤◌, ◌<◌, max, true, List, [], ◌∷◌, Option, Some, None, unwrap_or, ⊤}
use Rattle.std.specs.Ordering.{nat_cmp}
use Rattle.std.specs.FinMap as finite

-- each number is at most 999,999,999, the greatest of an ID
abbrev pub NumbersFit : {X : Type 0} → finite.FinMap nat_cmp X → Type 0
NumbersFit m = (n : ℕ) → finite.contains_key m n ≡ true → n ≤ 999999999

-- the greatest of some numbers
abbrev pub greatest_of : List ℕ → Option ℕ
greatest_of [] = None
greatest_of (n ∷ ns) = Some (max n (unwrap_or (greatest_of ns) 0))

-- the number is above the greatest, where there is one
abbrev pub IsAbove : ℕ → Option ℕ → Type 0
IsAbove n None = ⊤
IsAbove n (Some most) = most < n
