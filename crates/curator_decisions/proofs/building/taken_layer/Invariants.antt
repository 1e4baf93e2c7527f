use Rattle.std.proofs.Common.{◌≡◌, take}
use Rattle.std.specs.List.{filter_map, fold}
use Rattle.layer_model.specs.Annotations.{no_marks}
use Rattle.layer_model.specs.Layers.{with_mark}
use Rattle.curator_decisions.specs.Placing.{taken_at}
use Rattle.curator_decisions.proofs.building.taken_layer.Given as goal

abbrev pub invariant-loop-one : goal.invariant-loop-one
invariant-loop-one l = l.layer ≡ fold (λ layer entry. with_mark layer entry.0 entry.1) no_marks (filter_map (taken_at l.snapshot l.all) (take l.one-index l.numbered))
