-- What a project lends by number.
use Rattle.std.specs.Prelude.{ℕ, ◌==◌, List, [], Option, Some, None, slice_get, if◌then◌else◌}
use Rattle.std.specs.List.{cons_option}
use Rattle.std.specs.Option.{option_map_or}
use Rattle.layer_model.specs.Annotations.{Annotations}
use Rattle.project_machine.specs.ProjectState.{Row, ProjectState, finished_row}

-- the row of an annotator by place in the document of a number, where they are there
abbrev pub found_row : ProjectState → ℕ → ℕ → Option Row
found_row s doc rater = option_map_or (λ d. slice_get d.rows rater) (slice_get s.documents doc) None

-- the committed layer of a row, where one was committed
abbrev pub committed_layer : Row → Option Annotations
committed_layer r = if r.revision == 0 then None else Some r.layer

-- the layer of a row by its holder, where there is a row that is finished
abbrev pub finished_part : List ℕ → Option Row → List (List ℕ × Annotations)
finished_part holder row = option_map_or (λ r. cons_option (finished_row (holder, r)) []) row []
