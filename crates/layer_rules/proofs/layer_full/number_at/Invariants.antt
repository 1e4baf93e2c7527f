use Rattle.std.proofs.Common.{◌≡◌, slice_get}
use Rattle.std.specs.Map.{keys_of}
use Rattle.layer_rules.proofs.layer_full.number_at.Given as goal

abbrev pub invariant-loop-number : goal.invariant-loop-number
invariant-loop-number g l = slice_get (keys_of l.number-iterator) l.left ≡ slice_get (keys_of l.map.entries) l.index
