use Rattle.std.proofs.Common.{◌<◌, arith, rules, Some}
use Rattle.kappa_alpha.proofs.Shares.{share_below, share_above, share_none, one_here, not_same}
use Rattle.kappa_alpha.proofs.pairs.shift_share.Goals as goal

pub shift_cell-requires-clause-enough : goal.shift_cell-requires-clause-enough
shift_cell-requires-clause-enough g c =
    let hy : c.in-Some.y < c.args.width = search rules in
    let e = rw c.in-Some.is at (c.requires.enough c.args.r c.args.s c.args.x c.in-Some.y (omega arith) c.requires.s_in c.requires.x_in hy) in
    omega (arith, e, share_below c.args.before c.args.r c.args.s c.args.r c.args.s c.args.x c.in-Some.y (Some c.args.x) (Some c.in-Some.y) (omega arith) (omega arith), one_here c.args.before c.args.r c.args.s c.args.x c.in-Some.y)

pub shift_cell-requires-clause-room : goal.shift_cell-requires-clause-room
shift_cell-requires-clause-room g c =
    let hy : c.in-Some.y < c.args.width = search rules in
    let e = rw c.in-Some.is at (c.requires.room c.args.r c.args.s c.args.x c.in-Some.y (omega arith) c.requires.s_in c.requires.x_in hy) in
    omega (arith, e, share_below c.args.after c.args.r c.args.s c.args.r c.args.s c.args.x c.in-Some.y (Some c.args.x) (Some c.in-Some.y) (omega arith) (omega arith), one_here c.args.after c.args.r c.args.s c.args.x c.in-Some.y)

pub shift_cell-requires-else-r-s-clause-enough : goal.shift_cell-requires-else-r-s-clause-enough
shift_cell-requires-else-r-s-clause-enough g c =
    let hy : c.in-Some.y < c.args.width = search rules in
    let ne = not_same c.args.r c.args.s c.in-Some.y c.args.other c.requires.apart c.in-Some.is in
    let lt : c.args.s < c.args.r = grind arith in
    let e = rw c.in-Some.is at (c.requires.enough c.args.s c.args.r c.in-Some.y c.args.x lt c.requires.r_in hy c.requires.x_in) in
    omega (arith, e, share_above c.args.before c.args.r c.args.s c.args.s c.args.r c.in-Some.y c.args.x (Some c.args.x) (Some c.in-Some.y) lt lt, one_here c.args.before c.args.s c.args.r c.in-Some.y c.args.x)

pub shift_cell-requires-else-r-s-clause-room : goal.shift_cell-requires-else-r-s-clause-room
shift_cell-requires-else-r-s-clause-room g c =
    let hy : c.in-Some.y < c.args.width = search rules in
    let ne = not_same c.args.r c.args.s c.in-Some.y c.args.other c.requires.apart c.in-Some.is in
    let lt : c.args.s < c.args.r = grind arith in
    let e = rw c.in-Some.is at (c.requires.room c.args.s c.args.r c.in-Some.y c.args.x lt c.requires.r_in hy c.requires.x_in) in
    omega (arith, e, share_above c.args.after c.args.r c.args.s c.args.s c.args.r c.in-Some.y c.args.x (Some c.args.x) (Some c.in-Some.y) lt lt, one_here c.args.after c.args.s c.args.r c.in-Some.y c.args.x)

pub returns-then-r-s-clause-each : goal.returns-then-r-s-clause-each
returns-then-r-s-clause-each g c = λ p q a b pq hq ha hb.
    rw c.in-Some.is (omega (arith, c.shift_cell.ensures.each p q a b (omega (arith, pq, hq)) hq ha hb, share_below c.args.before c.args.r c.args.s p q a b (Some c.args.x) (Some c.in-Some.y) (omega arith) pq, share_below c.args.after c.args.r c.args.s p q a b (Some c.args.x) (Some c.in-Some.y) (omega arith) pq))

pub returns-else-r-s-clause-each : goal.returns-else-r-s-clause-each
returns-else-r-s-clause-each g c = λ p q a b pq hq ha hb.
    let ne = not_same c.args.r c.args.s c.in-Some.y c.args.other c.requires.apart c.in-Some.is in
    let lt : c.args.s < c.args.r = grind arith in
    rw c.in-Some.is (omega (arith, c.shift_cell-else-r-s.ensures.each p q a b (omega (arith, pq, hq)) hq ha hb, share_above c.args.before c.args.r c.args.s p q a b (Some c.args.x) (Some c.in-Some.y) lt pq, share_above c.args.after c.args.r c.args.s p q a b (Some c.args.x) (Some c.in-Some.y) lt pq))

pub returns-in_default-clause-each : goal.returns-in_default-clause-each
returns-in_default-clause-each g c = λ p q a b pq hq ha hb.
    rw c.in_default.is (omega (arith, share_none c.args.before c.args.r c.args.s p q a b (Some c.args.x), share_none c.args.after c.args.r c.args.s p q a b (Some c.args.x)))
