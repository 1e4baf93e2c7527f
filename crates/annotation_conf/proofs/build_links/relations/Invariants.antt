use Rattle.std.proofs.Common.{◌≡◌, map, take}
use Rattle.annotation_conf.specs.BuildTold.{relation_kept, firsts_kept}
use Rattle.annotation_conf.proofs.build_links.relations.Given as goal

abbrev pub invariant-loop-line : goal.invariant-loop-line
invariant-loop-line l = l.rows.items ≡ map (relation_kept l.resolver l.lines) (firsts_kept l.resolver (take l.line-index l.lines))
