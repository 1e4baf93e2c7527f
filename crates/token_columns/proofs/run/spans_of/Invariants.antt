use Rattle.std.proofs.Common.{◌≡◌, ◌++◌, map}
use Rattle.token_columns.specs.Labels.{placed_of}
use Rattle.token_columns.proofs.run.spans_of.Given as goal

abbrev pub invariant-loop-number : goal.invariant-loop-number
invariant-loop-number l = l.spans.items ++ map placed_of l.number-iterator ≡ map placed_of l.initial.number-iterator
