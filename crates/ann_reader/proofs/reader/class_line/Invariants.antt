use Rattle.std.proofs.Common.{◌≡◌, drop}
use Rattle.std.specs.Prelude.{map, find}
use Rattle.ann_reader.specs.AnnFaults.{brings}
use Rattle.ann_reader.specs.LineShows.{seen_line}
use Rattle.ann_reader.proofs.reader.class_line.Given as goal

abbrev pub invariant-loop-line : goal.invariant-loop-line
invariant-loop-line l = find (brings l.conf l.class) (map seen_line (drop l.line-index l.lines)) ≡ find (brings l.conf l.class) (map seen_line l.lines)
