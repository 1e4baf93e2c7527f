-- Rows on which the definitions are shown at work.
use Rattle.std.specs.Prelude.{ℕ, List, [], ◌∷◌, true, codes}
use Rattle.std.specs.FinMap as finite
use Rattle.mark_base.specs.declared.ann_id.Kind.TheVariants as letter
use Rattle.mark_base.specs.ReadIds.{id_at}
use Rattle.layer_model.specs.declared.span.Span.{Span}
use Rattle.layer_model.specs.Annotations.{Annotations, no_marks}
use Rattle.layer_core.specs.declared.command.Command.TheVariants.{ClearAttribute}
use Rattle.project_machine.specs.ProjectState.{Row, blank_row}
use Rattle.project_machine.specs.ProgressTable.{progress_fields}

-- a span over the characters from `start` up to `end`
abbrev pub span : ℕ → ℕ → Span
span start end = record { kind = record { n = 0 }; frags = record { start = start; end = end } ∷ [] }

-- a layer of the spans T1 and T2, and nothing else
abbrev pub two_spans : Annotations
two_spans = record no_marks { spans = finite.from_sorted ((1, span 0 1) ∷ (2, span 2 3) ∷ []) }

-- a row that was committed twice, with two spans, and is ignored; a draft of one command is parked on it
abbrev pub parked_row : Row
parked_row = record blank_row { revision = 2; layer = two_spans; done = ClearAttribute (id_at letter.Attribute 1) ∷ []; ignored = true }

-- the fields of a row of ann on the document x
abbrev pub shown : Row → List (List ℕ)
shown r = progress_fields (codes "x") (codes "ann") r

-- fields of those names, with the words and numbers behind them
abbrev pub fields : (revision state ignored annotations parked : List ℕ) → List (List ℕ)
fields revision state ignored annotations parked = codes "x" ∷ codes "ann" ∷ revision ∷ state ∷ ignored ∷ annotations ∷ parked ∷ []
