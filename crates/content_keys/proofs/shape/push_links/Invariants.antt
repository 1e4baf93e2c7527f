use Rattle.std.proofs.Common.{◌≡◌, drop, ◌++◌}
use Rattle.content_keys.specs.Tables.{links}
use Rattle.content_keys.proofs.shape.push_links.Given as goal

abbrev pub invariant-loop-role : goal.invariant-loop-role
invariant-loop-role l = l.fn.out.items ++ links l.bag ≡ l.out.items ++ links (drop l.role-index l.bag)
