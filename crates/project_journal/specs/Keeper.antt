-- What a keeper keeps.
use Rattle.std.specs.Prelude.{◌≡◌, ◌⊎◌, ℕ, ◌≤◌, List, [], ◌∷◌, ◌++◌, length, Option, Some}
use Rattle.std.specs.Option.{IsSomeAnd}

-- an entry has 1 to 16,777,216 bytes
pub record IsEntry (entry : List ℕ) : Type 0 where
  pub some : 1 ≤ length entry
  pub most : length entry ≤ 16777216

-- The list that a stop left is these entries, alone or with one more: the one in doubt or this one.
abbrev pub IsKeptOrOneMore : List (List ℕ) → Option (List ℕ) → List ℕ → Option (List (List ℕ)) → Type 0
IsKeptOrOneMore entries doubt entry found =
    (found ≡ Some entries) ⊎ (found ≡ Some (entries ++ entry ∷ [])) ⊎ IsSomeAnd doubt (λ e. found ≡ Some (entries ++ e ∷ []))

-- the same, alone or with the one in doubt
abbrev pub IsKeptOrDoubt : List (List ℕ) → Option (List ℕ) → Option (List (List ℕ)) → Type 0
IsKeptOrDoubt entries doubt found =
    (found ≡ Some entries) ⊎ IsSomeAnd doubt (λ e. found ≡ Some (entries ++ e ∷ []))
