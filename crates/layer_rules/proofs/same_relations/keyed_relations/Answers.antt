use Rattle.std.proofs.Common.{◌++◌, map, sym, ◌∙◌, ap, append-nil}
use Rattle.mark_base.specs.declared.ann_id.Kind.TheVariants as letter
use Rattle.layer_model.proofs.Maps.{same_list}
use Rattle.layer_rules.specs.Repeats.{keyed, shown, relation_key}
use Rattle.layer_rules.proofs.same_relations.keyed_relations.Goals as goal

pub returns : goal.returns
returns c =
    sym (append-nil (map shown c.loop-number.all.items))
    ∙ sym (ap (λ r. map shown c.loop-number.all.items ++ keyed letter.Relation relation_key r) c.in-None.ensures.steps.0)
    ∙ c.loop-number.invariant
    ∙ sym (ap (keyed letter.Relation relation_key) (same_list c.args.relations.now.entries c.into_iter-number-iterator.ensures.into_iter_gives.5))
