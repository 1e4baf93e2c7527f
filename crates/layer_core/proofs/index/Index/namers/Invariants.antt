use Rattle.std.proofs.Common.{◌≡◌, ◌++◌}
use Rattle.layer_core.specs.Indexes.{namers_among}
use Rattle.layer_core.proofs.index.Index.namers.Given as goal

-- those found and those among the pairs that are left are those among all
abbrev pub invariant-loop-place : goal.invariant-loop-place
invariant-loop-place l = l.ids.items ++ namers_among l.but l.layer l.id l.place-iterator ≡ namers_among l.but l.layer l.id l.initial.place-iterator
