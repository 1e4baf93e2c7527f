use Rattle.std.proofs.Common.{◌<◌, arith, rules, Some}
use Rattle.kappa_alpha.proofs.Worth.{worth_self}
use Rattle.kappa_alpha.proofs.Toward.{both_none}
use Rattle.kappa_alpha.proofs.coincidences.shift_both.Goals as goal

pub shift-requires-clause-enough : goal.shift-requires-clause-enough
shift-requires-clause-enough g c =
    let hy : c.in-Some.y < c.args.grid.now.width = search rules in
    let r = rw c.in-Some.is at (c.requires.enough c.args.x c.in-Some.y c.requires.x_in hy) in
    omega (arith, r, worth_self c.args.before c.args.x c.in-Some.y)

pub shift-requires-clause-room : goal.shift-requires-clause-room
shift-requires-clause-room g c =
    let hy : c.in-Some.y < c.args.grid.now.width = search rules in
    let r = rw c.in-Some.is at (c.requires.room c.args.x c.in-Some.y c.requires.x_in hy) in
    omega (arith, r, worth_self c.args.after c.args.x c.in-Some.y)

pub shift-requires-in-Some-clause-enough : goal.shift-requires-in-Some-clause-enough
shift-requires-in-Some-clause-enough g c =
    let hy : c.in-Some.y < c.args.grid.now.width = search rules in
    let r = rw c.in-Some.is at (c.requires.enough c.in-Some.y c.args.x hy c.requires.x_in) in
    omega (arith, r, worth_self c.args.before c.in-Some.y c.args.x, c.shift.ensures.each c.in-Some.y c.args.x hy c.requires.x_in)

pub shift-requires-in-Some-clause-room : goal.shift-requires-in-Some-clause-room
shift-requires-in-Some-clause-room g c =
    let hy : c.in-Some.y < c.args.grid.now.width = search rules in
    let r = rw c.in-Some.is at (c.requires.room c.in-Some.y c.args.x hy c.requires.x_in) in
    omega (arith, r, worth_self c.args.after c.in-Some.y c.args.x, c.shift.ensures.each c.in-Some.y c.args.x hy c.requires.x_in)

pub returns-in_default-clause-each : goal.returns-in_default-clause-each
returns-in_default-clause-each g c = λ a b ha hb. rw c.in_default.is (omega (arith, both_none c.args.before a b (Some c.args.x), both_none c.args.after a b (Some c.args.x)))
