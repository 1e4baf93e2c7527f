use Rattle.std.proofs.Common.{◌≡◌, take, []}
use Rattle.std.specs.List.{fold}
use Rattle.layer_model.specs.Classes.{with_id}
use Rattle.layer_model.proofs.id_set.IdSet.of.Given as goal

abbrev pub invariant-loop-id : goal.invariant-loop-id
invariant-loop-id l = l.set ≡ fold with_id [] (take l.id-index l.ids)
