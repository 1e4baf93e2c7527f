use Rattle.std.proofs.Common.{◌≡◌, ◌^◌, ◌-◌, ◌<◌, ◌≤◌, length, map, drop}
use Rattle.unanimous_merge.specs.Items.{number_of_bits}
use Rattle.unanimous_merge.specs.Rows.{having}
use Rattle.unanimous_merge.proofs.standing.holders_of.Given as goal

abbrev pub invariant-loop-left : goal.invariant-loop-left
invariant-loop-left l = record {
  within : l.left ≤ length l.rows;
  holders : l.holders ≡ number_of_bits (having l.place (map (λ row. row.items) (drop l.left l.rows)));
  small : l.holders < 2 ^ (length l.rows - l.left);
}

abbrev pub decreases-loop-left : goal.decreases-loop-left
decreases-loop-left l = l.left
