-- How a document is found by its name (private calls only).
use Rattle.std.specs.Prelude.{ℕ, List, bytes_eq, length, slice_get, if◌then◌else◌}
use Rattle.std.specs.Option.{option_map_or}
use Rattle.project_machine.specs.ProjectState.{Document, ProjectState}
use Rattle.project_state.specs.Stored.{numbered_as}

-- a number, where the document has the name, or the count of documents
abbrev pub number_if : ProjectState → List ℕ → ℕ → Document → ℕ
number_if s name doc d = if bytes_eq d.name name then doc else length s.documents

-- the number under which a name stands, where the document of that number has the name, or the count of documents
abbrev pub number_by : ProjectState → List (List ℕ × ℕ) → List ℕ → ℕ
number_by s numbers name =
    option_map_or (λ doc. option_map_or (number_if s name doc) (slice_get s.documents doc) (length s.documents)) (numbered_as numbers name) (length s.documents)
