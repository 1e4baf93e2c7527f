use Rattle.std.proofs.Common.{◌≡◌, take}
use Rattle.curator_decisions.specs.Naming.{places_of_ids}
use Rattle.curator_decisions.proofs.naming.places_of_ids.Given as goal

abbrev pub invariant-loop-id : goal.invariant-loop-id
invariant-loop-id l = l.out.items ≡ places_of_ids l.places (take l.id-index l.ids)
