use Rattle.std.proofs.Common.{◌≡◌, drop}
use Rattle.ann_reader.specs.Roles.{role_before_number}
use Rattle.ann_reader.proofs.roles.role_before_number.Given as goal

abbrev pub invariant-loop-digits : goal.invariant-loop-digits
invariant-loop-digits l = role_before_number l.conf l.event.n l.word (drop l.digits-index l.counts) ≡ role_before_number l.conf l.event.n l.word l.counts
