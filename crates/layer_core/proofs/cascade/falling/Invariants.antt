use Rattle.std.proofs.Common.{◌≡◌, filter}
use Rattle.layer_core.specs.MadeLayers.{falls_by}
use Rattle.layer_model.specs.LayerIds.{ids_of}
use Rattle.layer_core.proofs.cascade.falling.Given as goal

abbrev pub invariant-loop-round : goal.invariant-loop-round
invariant-loop-round l = l.fallen.items ≡ filter (falls_by l.round l.layer l.gone) (ids_of l.layer)
