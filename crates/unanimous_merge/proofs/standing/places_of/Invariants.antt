use Rattle.std.proofs.Common.{◌≡◌, map, take}
use Rattle.unanimous_merge.proofs.standing.places_of.Given as goal

abbrev pub invariant-loop-one : goal.invariant-loop-one
invariant-loop-one l = l.places.items ≡ map (λ p. p.place) (take l.one-index l.placed)
