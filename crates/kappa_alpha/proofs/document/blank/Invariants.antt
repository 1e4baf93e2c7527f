use Rattle.std.proofs.Common.{◌≡◌, replicate, None}
use Rattle.kappa_alpha.proofs.document.blank.Given as goal

abbrev pub invariant-loop : goal.invariant-loop
invariant-loop l = l.rows.items ≡ replicate l.counter None
