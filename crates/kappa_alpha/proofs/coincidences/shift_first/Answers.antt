use Rattle.std.proofs.Common.{arith}
use Rattle.kappa_alpha.proofs.Toward.{none_toward}
use Rattle.kappa_alpha.proofs.coincidences.shift_first.Goals as goal

pub returns-in_default-clause-each : goal.returns-in_default-clause-each
returns-in_default-clause-each g c = λ a b ha hb. rw c.in_default.is (omega (arith, none_toward c.args.before a b c.args.rest.now, none_toward c.args.after a b c.args.rest.now))
