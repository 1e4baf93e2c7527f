use Rattle.std.proofs.Common.{◌++◌, map, sym, ◌∙◌, ap, append-nil}
use Rattle.std.specs.FinMap as finite
use Rattle.layer_model.proofs.Maps.{same_list}
use Rattle.token_columns.specs.Labels.{placed_of}
use Rattle.token_columns.proofs.run.spans_of.Goals as goal

pub returns : goal.returns
returns c =
    sym (append-nil c.loop-number.spans.items)
    ∙ sym (ap (λ r. c.loop-number.spans.items ++ map placed_of r) c.in-None.ensures.steps.0)
    ∙ c.loop-number.invariant
    ∙ ap (map placed_of) (c.into_iter-number-iterator.ensures.into_iter_gives.0 ∙ sym (same_list c.spans-number-items.result.now.entries c.into_iter-number-iterator.ensures.into_iter_gives.5) ∙ ap finite.entries c.spans-number-items.ensures)
