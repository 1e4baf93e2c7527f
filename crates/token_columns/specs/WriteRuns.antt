-- Labels found by going over the spans once (private calls only).
use Rattle.std.specs.Prelude.{ℕ, ◌≤◌, ◌+◌, ◌==◌, ◌&&◌, Bool, true, ⊤, List, [], ◌∷◌, ◌++◌, codes, nat_lt, nat_le, Option, Some, None, if◌then◌else◌}
use Rattle.std.specs.List.{list_any}
use Rattle.mark_base.specs.declared.fragments.Frag.{Frag}
use Rattle.conf_model.specs.Configurations.{Configuration}
use Rattle.token_columns.specs.declared.run.Run.{Run}
use Rattle.token_columns.specs.declared.run.Placed.{Placed}
use Rattle.token_columns.specs.Columns.{labelled_line}
use Rattle.token_columns.specs.Labels.{label_by}

-- the spans without those in front that end at a character or before
abbrev pub still : ℕ → List Run → List Run
still character [] = []
still character (run ∷ runs) = if nat_le run.end character then still character runs else run ∷ runs

-- the first of some spans, where it starts at a character or before
abbrev pub first_at : ℕ → List Run → Option Run
first_at character [] = None
first_at character (run ∷ runs) = if nat_le run.start character then Some run else None

-- the lines of tokens, each with the label that the first span left gives it
abbrev pub text_from : Configuration → List ℕ → List Run → List Frag → List ℕ
text_from conf text runs [] = []
text_from conf text runs (token ∷ tokens) =
    (labelled_line conf text token (label_by (first_at token.start (still token.start runs)) token) ++ codes "\n") ++ text_from conf text (still token.start runs) tokens

-- two spans have a character in common
abbrev pub meet : Run → Run → Bool
meet a b = nat_lt a.start b.end && nat_lt b.start a.end

-- a span has a character in common with one of a lower number
abbrev pub meets_lower : List Placed → Placed → Bool
meets_lower spans span = list_any (λ other. nat_lt other.number span.number && meet other.run span.run) spans

-- places that rise, the first at this one or behind
abbrev pub Rises : ℕ → List ℕ → Type 0
Rises low [] = ⊤
Rises low (place ∷ places) = (low ≤ place) × Rises place places

-- spans that rise behind a place, none of them empty, and are numbered from this number on
abbrev pub is_ordered : ℕ → ℕ → List Placed → Bool
is_ordered low number [] = true
is_ordered low number (span ∷ spans) =
    (span.number == number) && nat_le low span.run.start && nat_lt span.run.start span.run.end && is_ordered span.run.end (number + 1) spans
