-- So many words are no command.
use Rattle.std.proofs.Common.{◌≡◌, ℕ, ◌<◌, ◌≤◌, List, [], ◌∷◌, None, length, arith, refl}
use Rattle.std.specs.Prelude.{map}
use Rattle.command_words.specs.Asked.{command_of}

-- no word
pub too_few : {A : Type 0} (f : A → List ℕ) (words : List A) → length words < 1 → None ≡ command_of (map f words)
too_few {A} f [] few = refl
too_few {A} f (a ∷ rest) few = absurd (omega arith)

-- more than five words
pub too_many : {A : Type 0} (f : A → List ℕ) (words : List A) → 6 ≤ length words → None ≡ command_of (map f words)
too_many {A} f [] many = absurd (omega arith)
too_many {A} f (a ∷ []) many = absurd (omega arith)
too_many {A} f (a ∷ b ∷ []) many = absurd (omega arith)
too_many {A} f (a ∷ b ∷ c ∷ []) many = absurd (omega arith)
too_many {A} f (a ∷ b ∷ c ∷ d ∷ []) many = absurd (omega arith)
too_many {A} f (a ∷ b ∷ c ∷ d ∷ e ∷ []) many = absurd (omega arith)
too_many {A} f (a ∷ b ∷ c ∷ d ∷ e ∷ g ∷ rest) many = refl
