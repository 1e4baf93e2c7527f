-- What stands at a token: outside of all spans, or the first or a later token of a span of some type (the labels IOB2 of CoNLL files).
use Rattle.std.specs.Prelude.{ℕ, ◌==◌, ◌&&◌, Bool, List, map, length, nat_lt, nat_le, find, Option, Some, None, if◌then◌else◌}
use Rattle.std.specs.FinMap as finite
use Rattle.mark_base.specs.declared.fragments.Frag.{Frag}
use Rattle.layer_model.specs.declared.span.Span.{Span}
use Rattle.layer_model.specs.Annotations.{Annotations}
use Rattle.token_columns.specs.declared.label.Label.{Label}
use Rattle.token_columns.specs.declared.label.Label.TheVariants.{Out, Begin, Inside}
use Rattle.token_columns.specs.declared.run.Run.{Run}
use Rattle.token_columns.specs.declared.run.Placed.{Placed}
use Rattle.type_hierarchy.specs.declared.type_row.TypeRow.{TypeRow}
use Rattle.label_tracks.specs.Candidates.{start_of, end_of}
use Rattle.label_tracks.specs.Levels.{group_at}

-- a span by its type, where its first fragment starts and where its last ends
abbrev pub run_of : Span → Run
run_of span = record { kind = span.kind; start = start_of span.frags; end = end_of span.frags }

-- the same with its number and how many fragments it has
abbrev pub placed_of : (ℕ × Span) → Placed
placed_of entry = record { number = entry.0; pieces = length entry.1.frags; run = run_of entry.1 }

-- the spans of a layer, by number
abbrev pub spans_of : Annotations → List Placed
spans_of layer = map placed_of (finite.entries layer.spans)

-- the same without their numbers
abbrev pub runs_of : Annotations → List Run
runs_of layer = map (λ placed. placed.run) (spans_of layer)

-- a character lies between the start and the end of a span
abbrev pub reaches : ℕ → Run → Bool
reaches character run = nat_le run.start character && nat_lt character run.end

-- the first span that reaches over a character
abbrev pub covering : List Run → ℕ → Option Run
covering runs character = find (reaches character) runs

-- the label of a token that a span covers, or none
abbrev pub label_by : Option Run → Frag → Label
label_by None token = Out
label_by (Some run) token = if run.start == token.start then Begin run.kind else Inside run.kind

-- the label of a token: a span covers it where the span reaches over its first character
abbrev pub label_of : List Run → Frag → Label
label_of runs token = label_by (covering runs token.start) token

-- the label of agreement, with no level, that the type of a label has: its group, and 0 where there is none
abbrev pub group_of : List TypeRow → Label → ℕ
group_of rows Out = 0
group_of rows (Begin kind) = group_at rows 255 kind.n
group_of rows (Inside kind) = group_at rows 255 kind.n
