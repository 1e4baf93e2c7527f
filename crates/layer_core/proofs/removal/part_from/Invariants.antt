use Rattle.std.proofs.Common.{◌≡◌, ◌+◌, ◌≤◌, drop, length}
use Rattle.std.specs.Prelude.{vec_len}
use Rattle.std.specs.Vec.{vec_capacity}
use Rattle.layer_model.specs.Layers.{with_classes}
use Rattle.layer_core.specs.Backs.{with_left}
use Rattle.layer_core.specs.MadeLayers.{parted_from}
use Rattle.layer_core.proofs.removal.part_from.Given as goal

abbrev pub invariant-loop-kind : goal.invariant-loop-kind
invariant-loop-kind l =
    record {
      layer : with_classes l.layer (parted_from l.id l.layer.classes (drop l.kind-index l.kinds)) ≡ with_classes l.initial.layer (parted_from l.id l.initial.layer.classes l.kinds);
      back : with_left l.id l.left.items l.layer.classes ≡ with_left l.id l.initial.left.items l.initial.layer.classes;
      room : vec_len l.left + length (drop l.kind-index l.kinds) ≤ vec_capacity l.left;
    }
