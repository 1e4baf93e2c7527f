use Rattle.std.proofs.Common.{◌+◌, ◌<◌, ◌≤◌, ◌^◌, arith}
use Rattle.kappa_alpha.specs.Counted.{CoincidenceCount, LabelCount, UnitCount, unit_of}
use Rattle.kappa_alpha.proofs.label_moves.reweigh.Goals as goal

pub shift_ordered-requires-clause-enough : goal.shift_ordered-requires-clause-enough
shift_ordered-requires-clause-enough g c = λ a b ha hb. c.requires.enough (CoincidenceCount a b) (ha, hb)

pub shift_ordered-requires-clause-room : goal.shift_ordered-requires-clause-room
shift_ordered-requires-clause-room g c = λ a b ha hb. c.requires.room (CoincidenceCount a b) (ha, hb)

pub shift_diagonal-requires-clause-enough : goal.shift_diagonal-requires-clause-enough
shift_diagonal-requires-clause-enough g c = λ a ha.
    let h : a < c.args.tallies.now.coincidences.width = omega (arith, ha, c.requires.shape.labels) in
    rw c.label_weight-label_before.ensures.exact (c.requires.enough (LabelCount a) h)

pub shift_diagonal-requires-clause-room : goal.shift_diagonal-requires-clause-room
shift_diagonal-requires-clause-room g c = λ a ha.
    let h : a < c.args.tallies.now.coincidences.width = omega (arith, ha, c.requires.shape.labels) in
    rw c.label_weight-label_after.ensures.exact (c.requires.room (LabelCount a) h)

pub overflow_sub-tallies : goal.overflow_sub-tallies
overflow_sub-tallies g c = omega (arith, c.requires.enough UnitCount tt, c.label_weight-label_before.ensures.exact)

pub overflow_add-tallies : goal.overflow_add-tallies
overflow_add-tallies g c =
    let r : c.args.tallies.now.units + unit_of c.args.after ≤ 2 ^ 62 = c.requires.room UnitCount tt in
    omega (arith, r, c.label_weight-label_after.ensures.exact)
