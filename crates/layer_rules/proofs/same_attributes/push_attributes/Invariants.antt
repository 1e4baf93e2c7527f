use Rattle.std.proofs.Common.{◌≡◌, ◌++◌, map}
use Rattle.layer_rules.specs.Repeats.{attribute_key, keyed, shown}
use Rattle.layer_rules.proofs.same_attributes.push_attributes.Given as goal

abbrev pub invariant-loop-number : goal.invariant-loop-number
invariant-loop-number l = map shown l.all.items ++ keyed l.kind attribute_key l.number-iterator ≡ map shown l.initial.all.items ++ keyed l.kind attribute_key l.attributes.entries
