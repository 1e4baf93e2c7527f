use Rattle.std.proofs.Common.{◌≡◌, ◌++◌, map}
use Rattle.mark_base.specs.declared.ann_id.Kind.TheVariants as letter
use Rattle.layer_rules.specs.Repeats.{keyed, shown, relation_key}
use Rattle.layer_rules.proofs.same_relations.keyed_relations.Given as goal

abbrev pub invariant-loop-number : goal.invariant-loop-number
invariant-loop-number l = map shown l.all.items ++ keyed letter.Relation relation_key l.number-iterator ≡ keyed letter.Relation relation_key l.relations.entries
