use Rattle.std.proofs.Common.{◌<◌, arith, rules}
use Rattle.kappa_alpha.specs.Counted.{CoincidenceCount, LabelCount, ConfusionCount}
use Rattle.kappa_alpha.proofs.Worth.{worth_self}
use Rattle.kappa_alpha.proofs.Counts.{beside_none}
use Rattle.kappa_alpha.proofs.label_moves.shift_label.Goals as goal

pub shift_toward-requires-clause-enough : goal.shift_toward-requires-clause-enough
shift_toward-requires-clause-enough g c = λ a b ha hb.
    rw c.in-Some.is at (c.requires.enough (CoincidenceCount a b) (ha, hb))

pub shift_toward-requires-clause-room : goal.shift_toward-requires-clause-room
shift_toward-requires-clause-room g c = λ a b ha hb.
    rw c.in-Some.is at (c.requires.room (CoincidenceCount a b) (ha, hb))

pub shift-requires-clause-enough : goal.shift-requires-clause-enough
shift-requires-clause-enough g c =
    let hy : c.in-Some.y < c.args.tallies.now.coincidences.width = search rules in
    let r = rw c.in-Some.is at (c.requires.enough (LabelCount c.in-Some.y) hy) in
    omega (arith, r, worth_self c.args.before.label c.in-Some.y c.in-Some.y)

pub shift-requires-clause-room : goal.shift-requires-clause-room
shift-requires-clause-room g c =
    let hy : c.in-Some.y < c.args.tallies.now.coincidences.width = search rules in
    let r = rw c.in-Some.is at (c.requires.room (LabelCount c.in-Some.y) hy) in
    omega (arith, r, worth_self c.args.after.label c.in-Some.y c.in-Some.y)

pub shift_shares-requires-clause-enough : goal.shift_shares-requires-clause-enough
shift_shares-requires-clause-enough g c = λ p q a b pq hq ha hb.
    let r = rw c.requires.whole at (rw c.in-Some.is at (c.requires.enough (ConfusionCount p q a b) (pq, hq, omega (arith, ha, c.width-width.ensures), omega (arith, hb, c.width-width.ensures)))) in
    rw c.deref_mut.ensures.value r

pub shift_shares-requires-clause-room : goal.shift_shares-requires-clause-room
shift_shares-requires-clause-room g c = λ p q a b pq hq ha hb.
    let r = rw c.requires.whole at (rw c.in-Some.is at (c.requires.room (ConfusionCount p q a b) (pq, hq, omega (arith, ha, c.width-width.ensures), omega (arith, hb, c.width-width.ensures)))) in
    rw c.deref_mut.ensures.value r

pub returns-in_default-clause-each : goal.returns-in_default-clause-each
returns-in_default-clause-each g c = λ x h.
    rw c.in_default.is (omega (arith, beside_none c.args.before x c.args.rater c.args.others.now, beside_none c.args.after x c.args.rater c.args.others.now))
