-- A project as a program keeps it.
use Rattle.std.specs.Prelude.{◌≡◌, ℕ, ◌<◌, ◌≤◌, List, length, map, sum, Option, Some}
use Rattle.std.specs.Ordering.{nat_cmp}
use Rattle.std.specs.BTreeMap.{is_at}
use Rattle.std.specs.Map.{lookup}
use Rattle.std.specs.Cmp.Lexicographic.{slice_cmp}
use Rattle.project_machine.specs.ProjectState.{ProjectState, document}

-- a project as it is kept: its state, under which numbers names of documents stand, and how many documents and snapshots more fit without more memory
pub record Stored : Type 0 where
  pub state : ProjectState
  pub numbers : List (List ℕ × ℕ)
  pub spare : ℕ
  pub room : ℕ

-- the number under which a name stands
abbrev pub numbered_as : List (List ℕ × ℕ) → List ℕ → Option ℕ
numbered_as numbers name = lookup (is_at (slice_cmp nat_cmp name)) numbers

-- how many characters all documents have
abbrev pub characters_in : ProjectState → ℕ
characters_in s = sum (map (λ d. length d.text) s.documents)

-- a project is kept in order: the name of each document stands under its number, and the documents are within their limits
pub record IsStored (s : ProjectState) (numbers : List (List ℕ × ℕ)) : Type 0 where
  pub numbered : (doc : ℕ) → doc < length s.documents → numbered_as numbers (document s doc).name ≡ Some doc
  pub few : length s.documents ≤ 4096
  pub low : characters_in s ≤ 16777216
