use Rattle.std.proofs.Common.{◌≡◌, ◌++◌, map, take}
use Rattle.annotation_conf.specs.BuildTold.{roles_kept}
use Rattle.annotation_conf.proofs.build_roles.event_roles.Given as goal

abbrev pub invariant-loop-line : goal.invariant-loop-line
invariant-loop-line l = l.rows.items ≡ l.initial.rows.items ++ map (roles_kept l.resolver) (take l.line-index l.lines)
