use Rattle.std.proofs.Common.{◌≡◌, ◌≤◌, true, length}
use Rattle.std.specs.List.{list_all}
use Rattle.layer_model.specs.Layers.{with_classes}
use Rattle.layer_core.specs.Backs.{has_some}
use Rattle.layer_core.specs.Regrouped.{all_joined}
use Rattle.layer_core.proofs.ways_back.join_each.Given as goal

-- the classes that are left have members each, and make of the layer so far what all make of the first
abbrev pub invariant-loop-left : goal.invariant-loop-left
invariant-loop-left l =
    record {
      fits : list_all has_some l.left ≡ true;
      same : with_classes l.layer (all_joined l.left l.layer.classes) ≡ with_classes l.fn.layer (all_joined l.fn.classes l.fn.layer.classes);
      short : length l.left ≤ length l.fn.classes;
    }

abbrev pub decreases-loop-left : goal.decreases-loop-left
decreases-loop-left l = length l.left
