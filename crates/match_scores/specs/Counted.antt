-- The running counts are those of a recount (private calls only).
use Rattle.std.specs.Prelude.{◌≡◌, ℕ, ◌+◌, ◌<◌, ◌≤◌, List, length, IfSome}
use Rattle.match_scores.specs.declared.sort.Sort.{Sort}
use Rattle.match_scores.specs.declared.tally.Tallies.{Tallies}
use Rattle.match_scores.specs.Matches.{Part, matched}
use Rattle.match_scores.specs.Standing.{Layers, document_at, layer_of, total_of}
use Rattle.match_scores.specs.Places.{IsFew}
use Rattle.match_scores.specs.Tallies.{IsSquare, cell}

-- the counts of each two raters change as one document's layers do
abbrev pub Shifts : ℕ → List Tallies → List Tallies → Layers → Layers → Type 0
Shifts raters old new before after =
    (a b : ℕ) (sort : Sort) (part : Part) → a < b → b < raters → cell raters new a b sort part + matched sort part (layer_of before a) (layer_of before b) ≡ cell raters old a b sort part + matched sort part (layer_of after a) (layer_of after b)

-- each layer has few annotations
abbrev pub AreFew : Layers → Type 0
AreFew layers = (rater : ℕ) → IfSome (layer_of layers rater) IsFew

-- the counts of each two raters are those of a recount of all documents
pub record AreTotals (raters : ℕ) (documents : List Layers) (totals : List Tallies) : Type 0 where
  pub raters_few : raters ≤ 16
  pub few : length documents ≤ 4096
  pub whole : (d : ℕ) → d < length documents → length (document_at documents d) ≡ raters
  pub small : (d : ℕ) → d < length documents → AreFew (document_at documents d)
  pub square : IsSquare raters totals
  pub recount : (a b : ℕ) (sort : Sort) (part : Part) → a < b → b < raters → cell raters totals a b sort part ≡ total_of documents a b sort part
