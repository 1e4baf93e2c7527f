-- Spans that rise and are numbered from 1 share no token, and are in their places.
use Rattle.std.proofs.Common.{◌≡◌, ℕ, ◌+◌, ◌==◌, ◌&&◌, not, true, false, Bool, List, [], ◌∷◌, None, ◌∙◌, ap, nat_lt, nat_le, option_map}
use Rattle.std.specs.Option.{option_or}
use Rattle.std.specs.List.{fold}
use Rattle.std.proofs.lemmas.Bool.{and_parts, eq-eqb, eqb-true, leb-true, ltb-true}
use Rattle.char_documents.specs.Tokens.{tokens_of}
use Rattle.layer_model.specs.Annotations.{Annotations}
use Rattle.token_columns.specs.declared.column_fault.ColumnOut.TheVariants.{Numbered, Shared}
use Rattle.token_columns.specs.declared.run.Placed.{Placed}
use Rattle.token_columns.specs.Labels.{spans_of}
use Rattle.token_columns.specs.Fits.{place_of, shares_lower}
use Rattle.token_columns.specs.WriteFaults.{class_there, earlier, fragmented, is_misnumbered, misnumbered, other_there, out_fault, shared, span_id, unaligned}
use Rattle.token_columns.specs.WriteRuns.{is_ordered}
use Rattle.token_columns.proofs.CleanLemmas.{none_from, none_kept}
use Rattle.token_columns.proofs.FitsLemmas.{Ordered, apart_all, numbered_all}
use Rattle.token_columns.proofs.OutLemmas.{each, last_told}

-- the test of one span
abbrev is_next : ℕ → ℕ → Placed → Bool
is_next low number span = (span.number == number) && nat_le low span.run.start && nat_lt span.run.start span.run.end

ordered_by : (low number : ℕ) (spans : List Placed) → is_ordered low number spans ≡ true → Ordered low number spans
ordered_by low number [] h = tt
ordered_by low number (span ∷ spans) h =
    let parts = and_parts (is_next low number span) (is_ordered span.run.end (number + 1) spans) h in
    let front = and_parts ((span.number == number) && nat_le low span.run.start) (nat_lt span.run.start span.run.end) parts.0 in
    let first = and_parts (span.number == number) (nat_le low span.run.start) front.0 in
    (eqb-true span.number number first.0, leb-true low span.run.start first.1, ltb-true span.run.start span.run.end front.1, ordered_by span.run.end (number + 1) spans parts.1)

-- a layer of such spans that has none of the first four faults has none
pub ordered_clean : (text : List ℕ) (layer : Annotations) (spans : List Placed) → spans ≡ spans_of layer → other_there layer ≡ None → class_there layer ≡ None → fragmented spans ≡ None → unaligned text spans ≡ None
    → is_ordered 0 1 spans ≡ true → out_fault text layer ≡ None
ordered_clean text layer spans is a b c d h =
    let o : Ordered 0 1 spans = ordered_by 0 1 spans h in
    let e : shared text spans ≡ None = ap (option_map (λ span. Shared (span_id span))) (none_from (shares_lower (tokens_of text) spans) spans (apart_all (tokens_of text) spans o)) in
    let f : misnumbered spans ≡ None =
    ap (λ xs. option_map (λ span. Numbered (span_id span)) (fold earlier None xs))
    (none_kept (is_misnumbered spans) spans
    (each (λ (span : Placed). span.number ≡ place_of spans span) (λ span. is_misnumbered spans span ≡ false) (λ span own. ap not (eq-eqb span.number (place_of spans span) own)) spans (numbered_all spans o))) in
    last_told text layer spans is a b c d ∙ ap (λ o. option_or o (misnumbered spans)) e ∙ f
