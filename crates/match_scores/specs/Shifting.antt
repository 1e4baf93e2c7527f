-- How the running counts change, rater by rater (private calls only).
use Rattle.std.specs.Prelude.{◌≡◌, ◌⊎◌, ℕ, ◌+◌, ◌<◌, List, Option}
use Rattle.match_scores.specs.declared.sort.Sort.{Sort}
use Rattle.match_scores.specs.declared.layer_in_table.Marks.{Marks}
use Rattle.match_scores.specs.declared.tally.Tallies.{Tallies}
use Rattle.match_scores.specs.Matches.{Part}
use Rattle.match_scores.specs.Places.{marks_at, met}
use Rattle.match_scores.specs.Tallies.{cell}

-- a pair of the rater and another one below an index
abbrev pub IsTouched : ℕ → ℕ → ℕ → ℕ → Type 0
IsTouched rater index a b = ((a ≡ rater) × (b < index)) ⊎ ((b ≡ rater) × (a < index))

-- the counts of the rater and each other one below the index have changed, and no others
pub record Shifting (raters rater : ℕ) (old new : List Tallies) (before after : List (Option Marks)) (index : ℕ) : Type 0 where
  pub done : (a b : ℕ) (sort : Sort) (part : Part) → a < b → b < raters → IsTouched rater index a b → cell raters new a b sort part + met sort part (marks_at before a) (marks_at before b) ≡ cell raters old a b sort part + met sort part (marks_at after a) (marks_at after b)
  pub rest : (a b : ℕ) (sort : Sort) (part : Part) → a < b → b < raters → (IsTouched rater index a b → ⊥) → cell raters new a b sort part ≡ cell raters old a b sort part
