use Rattle.std.proofs.Common.{◌++◌, map, sym, ◌∙◌, ap, append-nil}
use Rattle.layer_model.proofs.Maps.{same_list}
use Rattle.layer_rules.specs.Repeats.{attribute_key, keyed, shown}
use Rattle.layer_rules.proofs.same_attributes.push_attributes.Goals as goal

pub returns : goal.returns
returns c =
    sym (append-nil (map shown c.loop-number.all.items))
    ∙ sym (ap (λ r. map shown c.loop-number.all.items ++ keyed c.args.kind attribute_key r) c.in-None.ensures.steps.0)
    ∙ c.loop-number.invariant
    ∙ sym (ap (λ es. map shown c.args.all.now.items ++ keyed c.args.kind attribute_key es) (same_list c.args.attributes.now.entries c.into_iter-number-iterator.ensures.into_iter_gives.5))
