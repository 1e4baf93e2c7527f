use Rattle.std.proofs.Common.{◌≡◌, map, take, []}
use Rattle.annotation_conf.proofs.build_roles.no_roles.Given as goal

abbrev pub invariant-loop-line : goal.invariant-loop-line
invariant-loop-line l = l.rows.items ≡ map (λ line. []) (take l._line-index l.lines)
