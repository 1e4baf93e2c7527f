use Rattle.std.proofs.Common.{◌≡◌, ◌≤◌, length}
use Rattle.layer_model.specs.Layers.{with_classes}
use Rattle.layer_core.specs.Backs.{with_left}
use Rattle.layer_core.proofs.ways_back.join_left.Given as goal

-- the classes that are left make of the layer so far what all make of the first
abbrev pub invariant-loop-more : goal.invariant-loop-more
invariant-loop-more l =
    record {
      same : with_classes l.layer (with_left l.id l.more l.layer.classes) ≡ with_classes l.fn.layer (with_left l.fn.id l.fn.left l.fn.layer.classes);
      short : length l.more ≤ length l.fn.left;
    }

abbrev pub decreases-loop-more : goal.decreases-loop-more
decreases-loop-more l = length l.more
