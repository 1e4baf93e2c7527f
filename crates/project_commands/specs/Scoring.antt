-- What `scores BOOK` does: it reads a project as its file stands, and prints the exact-match scores of each two annotators.
use Rattle.std.specs.Prelude.{◌≡◌, ◌⊎◌, ℕ, ◌==◌, List, length, map, if◌then◌else◌, Option, Some, None}
use Rattle.layer_model.specs.Annotations.{Annotations}
use Rattle.match_scores.specs.Standing.{Layers, Standing, posted}
use Rattle.match_scores.specs.ScoreTable.{scores_table}
use Rattle.project_machine.specs.ProjectState.{Row, ProjectState, annotators, row_in}
use Rattle.project_machine.specs.Requests.{Happened}
use Rattle.project_machine.specs.History.{after}
use Rattle.program_inputs.specs.declared.trouble.Trouble.{Trouble}
use Rattle.program_inputs.specs.declared.trouble.Trouble.TheVariants.{Memory}
use Rattle.program_inputs.specs.ProjectFiles.ProjectFiles.{NotOpened}
use Rattle.project_commands.specs.Works.{EndsOn, LooksAt}

-- ---- the layers that are scored

-- the committed layer of a row, ignored or not; none where nothing was committed
abbrev pub committed_in : Row → Option Annotations
committed_in r = if r.revision == 0 then None else Some r.layer

-- the committed layers on the document of a name, by annotator
abbrev pub layers_on : ProjectState → (name : List ℕ) → Layers
layers_on s name = map (λ who. committed_in (row_in s name who)) (annotators s)

-- the committed layers on all documents
abbrev pub committed_layers : ProjectState → Standing
committed_layers s = record { raters = length (annotators s); documents = map (λ d. layers_on s d.name) s.documents }

-- the scores of each two annotators of a project over their committed layers
abbrev pub scores_in : ProjectState → List ℕ
scores_in s = scores_table (annotators s) (committed_layers s)

-- the layers that stand with one of an annotator on a document in the place of the one that stood; none changes nothing (private calls only)
abbrev pub posted_if : Standing → ℕ → ℕ → Option Annotations → Standing
posted_if s d rater None = s
posted_if s d rater (Some layer) = posted s d rater (Some layer)

-- ---- what a project shows

-- the table of scores at a history, which stays as it is
pub record ShowsScores (log : List Happened) (bytes : List ℕ) (now : List Happened) : Type 0 where
  pub table : bytes ≡ scores_in (after log)
  pub still : now ≡ log

-- ---- the command

-- what `scores` does
abbrev pub PrintsScores : (file : Option (List ℕ)) → (bytes : List ℕ) → Type 0
PrintsScores file bytes = LooksAt file (λ log now. ShowsScores log bytes now)

-- why no scores were printed: the project was not opened; or it was, and memory ran out, since it refuses its first curator neither the list of its documents nor the layer of an annotator on one of them
abbrev pub NotScored : (file : Option (List ℕ)) → Trouble → Type 0
NotScored file why = NotOpened file why ⊎ EndsOn file (λ log. why ≡ Memory)
