use Rattle.std.proofs.Common.{◌≡◌, ◌++◌, drop}
use Rattle.std.specs.List.{flat_map}
use Rattle.layer_rules.specs.Repeats.{frag_key, span_key}
use Rattle.layer_rules.proofs.same_spans.span_key.Given as goal

abbrev pub invariant-loop-frag : goal.invariant-loop-frag
invariant-loop-frag l = l.key.items ++ flat_map frag_key (drop l.frag-index l.frags) ≡ span_key l.span
