use Rattle.std.proofs.Common.{◌≡◌, drop}
use Rattle.layer_model.specs.Layers.{with_classes}
use Rattle.layer_core.specs.Regrouped.{all_parted}
use Rattle.layer_core.proofs.ways_back.part_each.Given as goal

abbrev pub invariant-loop-id : goal.invariant-loop-id
invariant-loop-id l =
    with_classes l.layer (all_parted l.kind.n (drop l.id-index l.ids) l.layer.classes) ≡ with_classes l.initial.layer (all_parted l.kind.n l.ids l.initial.layer.classes)
