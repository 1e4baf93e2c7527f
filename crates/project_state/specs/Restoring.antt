-- Which documents a project can be restored with.
use Rattle.std.specs.Prelude.{◌≡◌, ℕ, ◌<◌, ◌≤◌, List, Option, Some, None, get_or, length, map, nat_le, sum, if◌then◌else◌}
use Rattle.project_machine.specs.Legal.{NamesDiffer}
use Rattle.project_machine.specs.ProjectState.{Document, no_document}
use Rattle.project_state.specs.Stored.{numbered_as}

-- documents can be kept: there are few, of few characters, and of different names
pub record CanBeKept (documents : List Document) : Type 0 where
  pub few : length documents ≤ 4096
  pub total : sum (map (λ d. length d.text) documents) ≤ 16777216
  pub names : NamesDiffer (map (λ d. d.name) documents)

-- how many characters documents have, where they are few
abbrev pub total_of : List Document → Option ℕ
total_of documents = if nat_le (sum (map (λ d. length d.text) documents)) 16777216 then Some (sum (map (λ d. length d.text) documents)) else None

-- the name of each document stands under its number
abbrev pub AreNumbered : List Document → List (List ℕ × ℕ) → Type 0
AreNumbered documents numbers = (doc : ℕ) → doc < length documents → numbered_as numbers (get_or documents doc no_document).name ≡ Some doc
