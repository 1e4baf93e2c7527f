-- The labels that an annotator's layer gives to the tokens of a text: the unit of agreement.
use Rattle.std.specs.Prelude.{ℕ, List, map}
use Rattle.std.specs.Option.{option_map_or}
use Rattle.std.specs.FinMap as finite
use Rattle.char_documents.specs.Tokens.{tokens_of}
use Rattle.type_hierarchy.specs.declared.type_row.TypeRow.{TypeRow}
use Rattle.layer_model.specs.declared.span.Span.{Span}
use Rattle.layer_model.specs.Annotations.{Annotations}
use Rattle.label_tracks.specs.Candidates.{first_covering}
use Rattle.label_tracks.specs.Levels.{group_at}

-- the label of a character: the group of the first span that covers it, or 0 where none does
abbrev pub label_at : List TypeRow → ℕ → List (ℕ × Span) → ℕ → ℕ
label_at rows level spans character = option_map_or (λ first. group_at rows level first.kind.n) (first_covering character spans) 0

-- the labels of the tokens of a text, each that of the token's first character
unfoldable pub labels_of : List TypeRow → ℕ → Annotations → List ℕ → List ℕ
labels_of rows level layer text = map (λ token. label_at rows level (finite.entries layer.spans) token.start) (tokens_of text)
