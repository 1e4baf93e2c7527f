-- How the tables of a project are counted anew, document by document and row by row (private calls only).
use Rattle.std.specs.Prelude.{◌≡◌, ℕ, zero, suc, ◌<◌, List, [], ◌∷◌, length, map, slice_index, take, Option, Some, None}
use Rattle.char_documents.specs.Tokens.{tokens_of}
use Rattle.kappa_alpha.specs.Standing as tables
use Rattle.kappa_alpha.specs.Standing.{Standing, posted}
use Rattle.project_machine.specs.ProjectState.{Row, Document, ProjectState}
use Rattle.project_machine.specs.Tables.{labels_in, labelled, standing_of}

-- labels of so many tokens, each below a width
pub record AreLabels (tokens width : ℕ) (labels : List ℕ) : Type 0 where
  pub long : length labels ≡ tokens
  pub below : (i : ℕ) → i < length labels → slice_index labels i < width

-- the labels of a row stand, where it has any
abbrev pub posted_as : Standing → ℕ → ℕ → Option (List ℕ) → Standing
posted_as t doc rater None = t
posted_as t doc rater (Some labels) = posted t doc rater (Some labels)

-- the labels of the first of some rows, and none of the others
abbrev pub labels_upto : ProjectState → List ℕ → ℕ → List Row → List (Option (List ℕ))
labels_upto s text n [] = []
labels_upto s text zero (r ∷ rows) = None ∷ labels_upto s text zero rows
labels_upto s text (suc n) (r ∷ rows) = labels_in s text r ∷ labels_upto s text n rows

-- a document with the labels of its first rows
abbrev pub labelled_upto : ProjectState → ℕ → Document → tables.Document
labelled_upto s n d = record { tokens = length (tokens_of d.text); rows = labels_upto s d.text n d.rows }

-- the tables of the first documents
abbrev pub standing_upto : ProjectState → ℕ → ℕ → Standing
standing_upto s n spare = record (standing_of s spare) { documents = map (labelled s) (take n s.documents) }
