use Rattle.std.proofs.Common.{◌≤◌, length, map, drop}
use Rattle.items_report.specs.FoundLines.{FindsLines}
use Rattle.items_report.proofs.ann_lines.behind_ids.Given as goal

-- the lines behind the place are put down
abbrev pub invariant-loop-left : goal.invariant-loop-left
invariant-loop-left l = record {
  within : l.left ≤ length l.lines;
  finds : FindsLines (map (λ line. line.now) (drop l.left l.lines)) l.behind;
}

abbrev pub decreases-loop-left : goal.decreases-loop-left
decreases-loop-left l = l.left
