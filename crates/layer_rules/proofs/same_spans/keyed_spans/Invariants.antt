use Rattle.std.proofs.Common.{◌≡◌, ◌++◌, map}
use Rattle.mark_base.specs.declared.ann_id.Kind.TheVariants as letter
use Rattle.layer_rules.specs.Repeats.{keyed, shown, span_key}
use Rattle.layer_rules.proofs.same_spans.keyed_spans.Given as goal

abbrev pub invariant-loop-number : goal.invariant-loop-number
invariant-loop-number l = map shown l.all.items ++ keyed letter.Text span_key l.number-iterator ≡ keyed letter.Text span_key l.spans.entries
