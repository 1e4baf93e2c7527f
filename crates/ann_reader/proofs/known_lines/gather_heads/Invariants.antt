use Rattle.std.proofs.Common.{map, take}
use Rattle.ann_reader.specs.LineShows.{seen_line}
use Rattle.ann_reader.specs.KnownLines.{FindsHeads}
use Rattle.ann_reader.proofs.known_lines.gather_heads.Given as goal

abbrev pub invariant-loop-line : goal.invariant-loop-line
invariant-loop-line l = FindsHeads (map seen_line (take l.line-index l.lines)) l.heads
