use Rattle.std.proofs.Common.{◌≡◌, map, take}
use Rattle.content_keys.specs.Founds.{found_at, pair_of}
use Rattle.content_keys.proofs.keys.found_by.Given as goal

abbrev pub invariant-loop-one : goal.invariant-loop-one
invariant-loop-one l = map pair_of l.found.items ≡ map (found_at l.moves l.others) (take l.one-index l.placed)
