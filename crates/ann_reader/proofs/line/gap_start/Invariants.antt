use Rattle.std.proofs.Common.{◌≡◌, ◌+◌, ◌≤◌, ◌<◌, take, length, get_or}
use Rattle.std.specs.List.{suffix_len}
use Rattle.ann_reader.specs.Lines.{is_gap}
use Rattle.ann_reader.proofs.line.gap_start.Given as goal

abbrev pub invariant-loop-end : goal.invariant-loop-end
invariant-loop-end l = record {
  counted : l.end + suffix_len is_gap l.bytes ≡ length l.bytes + suffix_len is_gap (take l.end l.bytes);
  within : l.end ≤ length l.bytes;
  ascii : l.end < length l.bytes → get_or l.bytes l.end 0 < 128;
}

abbrev pub decreases-loop-end : goal.decreases-loop-end
decreases-loop-end l = l.end
