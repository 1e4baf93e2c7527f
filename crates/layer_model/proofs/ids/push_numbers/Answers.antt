use Rattle.std.proofs.Common.{◌++◌, map, sym, ◌∙◌, ap, append-nil}
use Rattle.std.specs.Map.{keys_of}
use Rattle.layer_model.proofs.Maps.{same_list}
use Rattle.mark_base.specs.ReadIds.{id_at}
use Rattle.layer_model.proofs.ids.push_numbers.Goals as goal

pub returns : goal.returns
returns g c =
    sym (append-nil c.loop-number.ids.items)
    ∙ sym (ap (λ r. c.loop-number.ids.items ++ map (id_at c.args.kind) (keys_of r)) c.in-None.ensures.steps.0)
    ∙ c.loop-number.invariant
    ∙ sym (ap (λ es. c.args.ids.now.items ++ map (id_at c.args.kind) (keys_of es)) (same_list c.args.marks.now.entries c.into_iter-number-iterator.ensures.into_iter_gives.5))
