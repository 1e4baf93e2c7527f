-- The labels that stand in the agreement tables of a project, and what is read of them.
use Rattle.std.specs.Prelude.{ℕ, ◌+◌, ◌-◌, ◌&&◌, not, List, length, map, nat_lt, Option, Some, None, if◌then◌else◌}
use Rattle.std.specs.List.{flat_map, range_with_len}
use Rattle.char_documents.specs.Tokens.{tokens_of}
use Rattle.label_tracks.specs.Labels.{labels_of}
use Rattle.label_tracks.specs.Levels.{grouping_of}
use Rattle.kappa_alpha.specs.declared.figures.PairLine.{PairLine}
use Rattle.kappa_alpha.specs.declared.figures.AlphaLine.{AlphaLine}
use Rattle.kappa_alpha.specs.Standing as tables
use Rattle.kappa_alpha.specs.Figures.{pair_line, alpha_line}
use Rattle.project_machine.specs.ProjectState.{Row, Document, ProjectState, annotators}

-- the labels of a row, where something was committed and the row is not ignored
abbrev pub labels_in : ProjectState → List ℕ → Row → Option (List ℕ)
labels_in s text r = if nat_lt 0 r.revision && not r.ignored then Some (labels_of s.conf.types s.level r.layer text) else None

-- the labels that stand on a document, and how many tokens it has
abbrev pub labelled : ProjectState → Document → tables.Document
labelled s d = record { tokens = length (tokens_of d.text); rows = map (labels_in s d.text) d.rows }

-- the labels that stand on all documents at the level of the project, with room for so many documents more
abbrev pub standing_of : ProjectState → ℕ → tables.Standing
standing_of s spare = record {
  raters = length (annotators s);
  categories = (grouping_of s.conf.types s.level).width;
  documents = map (labelled s) s.documents;
  spare = spare;
}

-- the line of two annotators
abbrev pub line_of_two : ProjectState → ℕ → ℕ → PairLine
line_of_two s first second = pair_line (standing_of s 0) first second

-- the lines of an annotator with each later one
abbrev pub lines_of_one : ProjectState → ℕ → List PairLine
lines_of_one s first = map (line_of_two s first) (range_with_len (first + 1) (length (annotators s) - first - 1))

-- the lines of each two annotators, in the order of their names
abbrev pub pair_lines : ProjectState → List PairLine
pair_lines s = flat_map (lines_of_one s) (range_with_len 0 (length (annotators s)))

-- the line of all annotators
abbrev pub all_line : ProjectState → AlphaLine
all_line s = alpha_line (standing_of s 0)
