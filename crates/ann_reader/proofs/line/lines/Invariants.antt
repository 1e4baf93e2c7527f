use Rattle.std.proofs.Common.{◌≡◌, ◌+◌, ◌++◌, ◌≤◌, ◌==◌, length, map}
use Rattle.std.specs.List.{slice_split}
use Rattle.ann_reader.specs.Lines.{lines_from}
use Rattle.ann_reader.specs.LineShows.{seen_line}
use Rattle.ann_reader.proofs.line.lines.Given as goal
use denote.Shadow.{shadow}
use denote.Text.{Utf8}

abbrev pub invariant-loop-lines : goal.invariant-loop-lines
invariant-loop-lines l = record {
  few : l.number + length l.rest ≤ 16777217;
  text : shadow (Utf8 l.rest);
  told : map seen_line l.lines.items ++ lines_from l.number (slice_split (λ b. b == 10) l.rest) ≡ lines_from 1 (slice_split (λ b. b == 10) l.fn.text);
}

abbrev pub decreases-loop-lines : goal.decreases-loop-lines
decreases-loop-lines l = length l.rest
