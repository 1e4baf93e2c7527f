-- What is at fault with a layer that does not fit columns: the first of six faults.
use Rattle.std.specs.Prelude.{◌≡◌, ⊤, ℕ, ◌==◌, Bool, not, List, length, nat_lt, find, Option, Some, None, option_map, if◌then◌else◌}
use Rattle.std.specs.Option.{option_or}
use Rattle.std.specs.List.{filter, fold}
use Rattle.mark_base.specs.declared.ann_id.AnnId.{AnnId}
use Rattle.mark_base.specs.declared.ann_id.Kind.TheVariants as letter
use Rattle.mark_base.specs.ReadIds.{id_at}
use Rattle.char_documents.specs.Tokens.{tokens_of}
use Rattle.layer_model.specs.Annotations.{Annotations}
use Rattle.layer_model.specs.Coherent.{is_span_letter}
use Rattle.layer_model.specs.LayerIds.{ids_of}
use Rattle.token_columns.specs.declared.column_fault.ColumnOut.{ColumnOut}
use Rattle.token_columns.specs.declared.column_fault.ColumnOut.TheVariants.{OtherThere, ClassThere, Fragmented, Unaligned, Shared, Numbered, WriteFault, Memory}
use Rattle.token_columns.specs.declared.run.Placed.{Placed}
use Rattle.token_columns.specs.Labels.{spans_of}
use Rattle.token_columns.specs.Fits.{is_aligned, shares_lower, place_of}

-- the ID of a span
abbrev pub span_id : Placed → AnnId
span_id span = id_at letter.Text span.number

-- the lowest ID that is of no span
abbrev pub other_there : Annotations → Option ColumnOut
other_there layer = option_map OtherThere (find (λ id. not (is_span_letter id.kind)) (ids_of layer))

-- some class
abbrev pub class_there : Annotations → Option ColumnOut
class_there layer = if length layer.classes == 0 then None else Some ClassThere

-- the lowest span that is not of one fragment
abbrev pub fragmented : List Placed → Option ColumnOut
fragmented spans = option_map (λ span. Fragmented (span_id span)) (find (λ span. not (span.pieces == 1)) spans)

-- the lowest span that does not go from a token's start to a token's end
abbrev pub unaligned : List ℕ → List Placed → Option ColumnOut
unaligned text spans = option_map (λ span. Unaligned (span_id span)) (find (λ span. not (is_aligned (tokens_of text) span.run)) spans)

-- the lowest span that shares a token with a lower one
abbrev pub shared : List ℕ → List Placed → Option ColumnOut
shared text spans = option_map (λ span. Shared (span_id span)) (find (shares_lower (tokens_of text) spans) spans)

-- the one of two spans that starts earlier
abbrev pub earlier : Option Placed → Placed → Option Placed
earlier None other = Some other
earlier (Some found) other = if nat_lt other.run.start found.run.start then Some other else Some found

-- the number of a span is not its place in the order of the starts
abbrev pub is_misnumbered : List Placed → Placed → Bool
is_misnumbered spans span = not (span.number == place_of spans span)

-- the first span by start whose number is not its place
abbrev pub misnumbered : List Placed → Option ColumnOut
misnumbered spans = option_map (λ span. Numbered (span_id span)) (fold earlier None (filter (is_misnumbered spans) spans))

-- the first fault of a layer for columns of a text
unfoldable pub out_fault : List ℕ → Annotations → Option ColumnOut
out_fault text layer =
    option_or (other_there layer) (option_or (class_there layer) (option_or (fragmented (spans_of layer))
    (option_or (unaligned text (spans_of layer)) (option_or (shared text (spans_of layer)) (misnumbered (spans_of layer))))))

-- a fault of the layer, which comes before any byte
abbrev pub IsNamed : ColumnOut → Type 0
IsNamed WriteFault = ⊥
IsNamed Memory = ⊥
IsNamed fault = ⊤

-- what a refusal tells: the first fault of the layer; where the sink failed there is none
abbrev pub TellsOut : List ℕ → Annotations → ColumnOut → Type 0
TellsOut text layer WriteFault = out_fault text layer ≡ None
TellsOut text layer Memory = ⊤
TellsOut text layer fault = out_fault text layer ≡ Some fault

-- the same where nothing was written yet
abbrev pub TellsLayer : List ℕ → Annotations → ColumnOut → Type 0
TellsLayer text layer WriteFault = ⊥
TellsLayer text layer Memory = ⊤
TellsLayer text layer fault = out_fault text layer ≡ Some fault
