use Rattle.std.proofs.Common.{◌≡◌, map, take, filter, bytes_eq}
use Rattle.annotation_conf.specs.BuildTold.{arguments_kept}
use Rattle.annotation_conf.proofs.build_links.argument_lines.Given as goal

abbrev pub invariant-loop-line : goal.invariant-loop-line
invariant-loop-line l = l.rows.items ≡ map (arguments_kept l.resolver) (filter (λ other. bytes_eq other.name l.name) (take l.line-index l.lines))
