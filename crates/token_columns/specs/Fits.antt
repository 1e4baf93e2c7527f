-- Which layers columns can show.
use Rattle.std.specs.Prelude.{◌≡◌, ℕ, ◌+◌, ◌==◌, ◌&&◌, Bool, true, false, List, nat_lt, count_by}
use Rattle.std.specs.List.{list_any, AllByRecursion}
use Rattle.std.specs.Ordering.{nat_cmp}
use Rattle.std.specs.FinMap as finite
use Rattle.mark_base.specs.declared.fragments.Frag.{Frag}
use Rattle.char_documents.specs.Tokens.{tokens_of}
use Rattle.layer_model.specs.declared.span.Span.{Span}
use Rattle.layer_model.specs.Annotations.{Annotations, no_marks}
use Rattle.token_columns.specs.declared.run.Run.{Run}
use Rattle.token_columns.specs.declared.run.Placed.{Placed}
use Rattle.token_columns.specs.Labels.{reaches, spans_of}

-- a layer of these spans and nothing else
abbrev pub only_spans : finite.FinMap nat_cmp Span → Annotations
only_spans spans = record no_marks { spans = spans }

-- a span goes from the start of a token to the end of a token
abbrev pub is_aligned : List Frag → Run → Bool
is_aligned tokens run = list_any (λ token. token.start == run.start) tokens && list_any (λ token. token.end == run.end) tokens

-- two spans share a token: both reach over its first character
abbrev pub share_token : List Frag → Run → Run → Bool
share_token tokens a b = list_any (λ token. reaches token.start a && reaches token.start b) tokens

-- a span shares a token with one of a lower number
abbrev pub shares_lower : List Frag → List Placed → Placed → Bool
shares_lower tokens spans span = list_any (λ other. nat_lt other.number span.number && share_token tokens other.run span.run) spans

-- the place of a span in the order of the starts, from 1
abbrev pub place_of : List Placed → Placed → ℕ
place_of spans span = count_by (λ other. nat_lt other.run.start span.run.start) spans + 1

-- a layer fits columns of a text: there are spans alone and no classes; each goes in one fragment from a token's start to a token's end; no two share a token; they are numbered from 1 in the order of their starts
pub record Fits (text : List ℕ) (layer : Annotations) : Type 0 where
  pub only : layer ≡ only_spans layer.spans
  pub whole : AllByRecursion (λ span. span.pieces ≡ 1) (spans_of layer)
  pub aligned : AllByRecursion (λ span. is_aligned (tokens_of text) span.run ≡ true) (spans_of layer)
  pub apart : AllByRecursion (λ span. shares_lower (tokens_of text) (spans_of layer) span ≡ false) (spans_of layer)
  pub numbered : AllByRecursion (λ span. span.number ≡ place_of (spans_of layer) span) (spans_of layer)
