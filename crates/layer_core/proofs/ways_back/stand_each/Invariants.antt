use Rattle.std.proofs.Common.{◌≡◌, ◌≤◌, true, length}
use Rattle.std.specs.List.{list_all}
use Rattle.layer_core.specs.Backs.{fits_taken, with_all_taken}
use Rattle.layer_core.proofs.ways_back.stand_each.Given as goal

-- the annotations that are left fit, and make of the layer so far what all make of the first
abbrev pub invariant-loop-left : goal.invariant-loop-left
invariant-loop-left l =
    record {
      fits : list_all fits_taken l.left ≡ true;
      same : with_all_taken l.left l.layer ≡ with_all_taken l.fn.taken l.fn.layer;
      short : length l.left ≤ length l.fn.taken;
    }

abbrev pub decreases-loop-left : goal.decreases-loop-left
decreases-loop-left l = length l.left
