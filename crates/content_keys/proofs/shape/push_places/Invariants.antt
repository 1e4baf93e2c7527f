use Rattle.std.proofs.Common.{◌≡◌, take, ◌++◌}
use Rattle.content_keys.proofs.shape.push_places.Given as goal

abbrev pub invariant-loop-place : goal.invariant-loop-place
invariant-loop-place l = l.out.items ≡ l.fn.out.items ++ take l.place-index l.places
