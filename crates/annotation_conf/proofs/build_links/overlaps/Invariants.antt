use Rattle.std.proofs.Common.{◌≡◌, map, take}
use Rattle.annotation_conf.specs.BuildTold.{overlap_kept}
use Rattle.annotation_conf.proofs.build_links.overlaps.Given as goal

abbrev pub invariant-loop-line : goal.invariant-loop-line
invariant-loop-line l = l.rows.items ≡ map (overlap_kept l.resolver) (take l.line-index l.lines)
