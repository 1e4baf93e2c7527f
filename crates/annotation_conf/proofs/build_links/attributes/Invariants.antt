use Rattle.std.proofs.Common.{◌≡◌, map, take}
use Rattle.annotation_conf.specs.BuildTold.{attribute_kept}
use Rattle.annotation_conf.proofs.build_links.attributes.Given as goal

abbrev pub invariant-loop-line : goal.invariant-loop-line
invariant-loop-line l = l.rows.items ≡ map (attribute_kept l.resolver) (take l.line-index l.lines)
