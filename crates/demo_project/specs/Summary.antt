-- The summary of a history.
use Rattle.std.specs.Prelude.{◌≡◌, ◌⊎◌, ℕ, Bool, false, true, List, [], ◌++◌, codes, decimal, length, Option, Some, None, get_or}
use Rattle.std.specs.Fmt.{signed_decimal}
use Rattle.std.specs.List.{flat_map, sum_by}
use Rattle.mark_base.specs.declared.ann_id.Kind.TheVariants as letter
use Rattle.kappa_alpha.specs.declared.figures.Fraction.{Fraction}
use Rattle.kappa_alpha.specs.declared.figures.PairLine.{PairLine}
use Rattle.kappa_alpha.specs.Standing.{tokens_in}
use Rattle.layer_model.specs.Layers.{count}
use Rattle.http_answers.specs.Answers.Answers.{curated_layer}
use Rattle.project_machine.specs.Machine.{view_of}
use Rattle.project_machine.specs.ProjectState.{ProjectState, Snapshot, annotators}
use Rattle.project_machine.specs.Requests.{Happened}
use Rattle.project_machine.specs.History.{after, last}
use Rattle.project_machine.specs.Tables.{all_line, pair_lines, standing_of}

-- a number behind what it counts
unfoldable pub counted : (label : List ℕ) → ℕ → List ℕ
counted label number = label ++ (decimal number ++ codes "\n")

-- a figure: its two numbers, not reduced
abbrev pub figure_text : Option Fraction → List ℕ
figure_text None = codes "undefined"
figure_text (Some f) = signed_decimal f.top ++ codes "/" ++ signed_decimal f.bottom

-- a figure behind whose it is
unfoldable pub figure_line : (label : List ℕ) → Option Fraction → List ℕ
figure_line label figure = label ++ (codes " " ++ (figure_text figure ++ codes "\n"))

-- the names of two annotators
abbrev pub pair_label : List (List ℕ) → PairLine → List ℕ
pair_label names line = get_or names line.first [] ++ codes " " ++ get_or names line.second []

-- the kappa of two annotators behind their names
abbrev pub pair_text : List (List ℕ) → PairLine → List ℕ
pair_text names line = figure_line (pair_label names line) line.kappa

-- the tokens of all documents
abbrev pub tokens_of_all : ProjectState → ℕ
tokens_of_all s = tokens_in (standing_of s 0).documents

-- the spans in the curated layer of a snapshot
abbrev pub curated_spans : ProjectState → Snapshot → ℕ
curated_spans s shot = count (curated_layer (view_of s shot)) letter.Text

-- the spans in the curated layers of some snapshots
unfoldable pub spans_in : ProjectState → List Snapshot → ℕ
spans_in s shots = sum_by (curated_spans s) shots

-- how much stands behind a history: documents, tokens, answers, changes, and spans in curated layers
unfoldable pub counts_text : (documents tokens answers changes curated : ℕ) → List ℕ
counts_text documents tokens answers changes curated =
    counted (codes "documents ") documents
    ++ counted (codes "tokens ") tokens
    ++ counted (codes "answers ") answers
    ++ counted (codes "changes ") changes
    ++ counted (codes "curated ") curated

-- the same, of a history and so many answers
abbrev pub counts_of : List Happened → ℕ → List ℕ
counts_of log answers = counts_text (length (after log).documents) (tokens_of_all (after log)) answers (last log) (spans_in (after log) (after log).snapshots)

-- the figures: kappa of each two annotators, in the order of their names, and alpha of all
abbrev pub figures_of : List Happened → List ℕ
figures_of log = flat_map (pair_text (annotators (after log))) (pair_lines (after log)) ++ figure_line (codes "alpha") (all_line (after log)).alpha

-- the summary of a history, of a session with so many answers
abbrev pub summary_of : List Happened → ℕ → List ℕ
summary_of log answers = counts_of log answers ++ figures_of log
