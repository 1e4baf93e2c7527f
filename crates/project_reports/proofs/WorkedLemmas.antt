-- The annotations of small layers, counted.
use Rattle.std.proofs.Common.{◌≡◌, ℕ, ◌+◌, List, [], ◌∷◌, length, ◌∙◌, ap}
use Rattle.std.specs.Prelude.{decimal}
use Rattle.std.specs.Ordering.{nat_cmp}
use Rattle.std.specs.FinMap as finite
use Rattle.layer_model.specs.declared.span.Span.{Span}
use Rattle.layer_model.specs.declared.event.Event.{Event}
use Rattle.layer_model.specs.declared.relation.Relation.{Relation}
use Rattle.layer_model.specs.declared.attribute.Attribute.{Attribute}
use Rattle.layer_model.specs.declared.normal.Normal.{Normal}
use Rattle.layer_model.specs.declared.note.Note.{Note}
use Rattle.layer_model.specs.Annotations.{no_marks}
use Rattle.project_machine.specs.ProjectState.{Row}
use Rattle.project_machine.specs.ProgressTable.{annotation_count, flag_text, standing}
use Rattle.project_reports.specs.WorkedStates.{fields, shown, span, two_spans}

none_counted : annotation_count no_marks ≡ 0
none_counted = λ i.
    finite.len-empty nat_cmp Span i + finite.len-empty nat_cmp Event i + finite.len-empty nat_cmp Relation i + finite.len-empty nat_cmp Attribute i + finite.len-empty nat_cmp Attribute i + finite.len-empty nat_cmp Normal i
    + finite.len-empty nat_cmp Note i

spans_counted : finite.len two_spans.spans ≡ 2
spans_counted = finite.len-entries two_spans.spans ∙ ap (λ (es : List (ℕ × Span)). length es) (finite.entries-from_sorted nat_cmp ((1, span 0 1) ∷ (2, span 2 3) ∷ []) tt)

two_counted : annotation_count two_spans ≡ 2
two_counted = λ i.
    spans_counted i + finite.len-empty nat_cmp Event i + finite.len-empty nat_cmp Relation i + finite.len-empty nat_cmp Attribute i + finite.len-empty nat_cmp Attribute i + finite.len-empty nat_cmp Normal i + finite.len-empty nat_cmp Note i

with_count : (r : Row) (n : ℕ) → annotation_count r.layer ≡ n → shown r ≡ fields (decimal r.revision) (standing r) (flag_text r.ignored) (decimal n) (decimal (length r.done))
with_count r n is = ap (λ (k : ℕ). fields (decimal r.revision) (standing r) (flag_text r.ignored) (decimal k) (decimal (length r.done))) is

-- the fields of a row on which nothing is marked
pub shown_empty : (r : Row) → r.layer ≡ no_marks → shown r ≡ fields (decimal r.revision) (standing r) (flag_text r.ignored) (decimal 0) (decimal (length r.done))
shown_empty r is = with_count r 0 (ap annotation_count is ∙ none_counted)

-- the fields of a row on which two spans are marked
pub shown_two : (r : Row) → r.layer ≡ two_spans → shown r ≡ fields (decimal r.revision) (standing r) (flag_text r.ignored) (decimal 2) (decimal (length r.done))
shown_two r is = with_count r 2 (ap annotation_count is ∙ two_counted)
