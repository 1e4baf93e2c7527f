use Rattle.std.proofs.Common.{◌≡◌, ◌++◌, map}
use Rattle.std.specs.Map.{keys_of}
use Rattle.mark_base.specs.ReadIds.{id_at}
use Rattle.layer_model.proofs.ids.push_numbers.Given as goal

abbrev pub invariant-loop-number : goal.invariant-loop-number
invariant-loop-number g l = l.ids.items ++ map (id_at l.kind) (keys_of l.number-iterator) ≡ l.initial.ids.items ++ map (id_at l.kind) (keys_of l.marks.entries)
