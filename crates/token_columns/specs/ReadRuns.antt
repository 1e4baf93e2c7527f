-- The spans that labels say (private calls only).
use Rattle.std.specs.Prelude.{◌≡◌, ℕ, ◌+◌, List, [], ◌∷◌, ◌++◌, length, Option, Some, None, Result, Ok}
use Rattle.std.specs.FinMap as finite
use Rattle.layer_model.specs.declared.span.Span.{Span}
use Rattle.layer_model.specs.Annotations.{Annotations}
use Rattle.token_columns.specs.declared.label.Label.{Label}
use Rattle.token_columns.specs.declared.label.Label.TheVariants.{Out, Begin, Inside}
use Rattle.token_columns.specs.declared.run.Run.{Run}
use Rattle.token_columns.specs.declared.column_fault.ColumnFault.{ColumnFault}
use Rattle.token_columns.specs.ReadColumns.{Tag, opened, last_of, begun, with_tag}

-- the span that is open, where one is
abbrev pub closed : Option Run → List Run
closed None = []
closed (Some run) = run ∷ []

-- the span that a label closes, where one is open
abbrev pub closed_by : Option Run → Label → List Run
closed_by last Out = closed last
closed_by last (Begin kind) = closed last
closed_by last (Inside kind) = []

-- the spans that tokens with labels make, behind a span that may be open
abbrev pub runs_from : Option Run → List Tag → List Run
runs_from last [] = closed last
runs_from last (tag ∷ tags) = closed_by last tag.label ++ runs_from (opened last tag.token tag.label) tags

-- a span of one fragment
abbrev pub span_of : Run → Span
span_of run = record { kind = run.kind; frags = record { start = run.start; end = run.end } ∷ [] }

-- spans with a number each, from this one on
abbrev pub numbered : ℕ → List Run → List (ℕ × Span)
numbered number [] = []
numbered number (run ∷ runs) = (number, span_of run) ∷ numbered (number + 1) runs

-- spans put into a layer, under the numbers from this one on
abbrev pub put_from : Annotations → ℕ → List Run → Annotations
put_from layer number [] = layer
put_from layer number (run ∷ runs) = put_from (record layer { spans = finite.insert layer.spans number (span_of run) }) (number + 1) runs

-- the tokens in front of others, of which the first are the nearest first
abbrev pub ahead : List Tag → List Tag → List Tag
ahead [] tags = tags
ahead (tag ∷ before) tags = ahead before (tag ∷ tags)

-- the same in front of what is still to be read
abbrev pub ahead_of : List Tag → Result (List Tag) ColumnFault → Result (List Tag) ColumnFault
ahead_of [] read = read
ahead_of (tag ∷ before) read = ahead_of before (with_tag tag read)

-- the spans that are complete and the one that is open are those of the tokens so far
pub record AreRuns (before : List Tag) (runs : List Run) (last : Option Run) : Type 0 where
  pub opens : last ≡ last_of before
  pub count : length runs + length (closed last) ≡ begun before
  pub made : (rest : List Tag) → runs ++ runs_from last rest ≡ runs_from None (ahead before rest)

-- the spans are those that tokens with labels make, where reading found no fault
abbrev pub SaysRuns : Result (List Tag) ColumnFault → List Run → Type 0
SaysRuns read runs = (tags : List Tag) × (read ≡ Ok tags) × (runs ≡ runs_from None tags)
