use Rattle.std.proofs.Common.{◌<◌, arith, rules, None}
use Rattle.kappa_alpha.proofs.Worth.{worth_self}
use Rattle.kappa_alpha.proofs.Shares.{none_worth}
use Rattle.kappa_alpha.proofs.diagonal.shift_one.Goals as goal

pub shift-requires-clause-enough : goal.shift-requires-clause-enough
shift-requires-clause-enough g c =
    let hy : c.in-Some.y < c.args.labels.now.width = search rules in
    let r = rw c.in-Some.is at (c.requires.enough c.in-Some.y hy) in
    omega (arith, r, worth_self c.args.before c.in-Some.y c.in-Some.y)

pub shift-requires-clause-room : goal.shift-requires-clause-room
shift-requires-clause-room g c =
    let hy : c.in-Some.y < c.args.labels.now.width = search rules in
    let r = rw c.in-Some.is at (c.requires.room c.in-Some.y hy) in
    omega (arith, r, worth_self c.args.after c.in-Some.y c.in-Some.y)

pub returns-in_default-clause-each : goal.returns-in_default-clause-each
returns-in_default-clause-each g c = λ a ha. rw c.in_default.is (omega (arith, none_worth c.args.before a a None, none_worth c.args.after a a None))
