use Rattle.std.proofs.Common.{◌<◌, arith, refl, None}
use Rattle.kappa_alpha.proofs.Counts.{tally_none, tally_more, tally_more_le}
use Rattle.kappa_alpha.proofs.Toward.{raters_none, raters_more}
use Rattle.kappa_alpha.proofs.diagonal.shift_diagonal.Goals as goal

pub loop-label-init : goal.loop-label-init
loop-label-init g c = record {
  width = refl;
  each = λ a ha. omega (arith, tally_none c.args.before a, tally_none c.args.after a);
  steps = omega (arith, raters_none);
}

pub shift_one-requires-clause-enough : goal.shift_one-requires-clause-enough
shift_one-requires-clause-enough g c = λ a ha.
    let ea : a < c.args.labels.now.width = omega (arith, ha, c.loop-label.invariant.width) in
    omega (arith, c.loop-label.invariant.each a ea, c.requires.enough a ea, tally_more_le c.args.before a c.args.column.now c.loop-label.label-index None c.loop-label-test.true)

pub shift_one-requires-clause-room : goal.shift_one-requires-clause-room
shift_one-requires-clause-room g c = λ a ha.
    let ea : a < c.args.labels.now.width = omega (arith, ha, c.loop-label.invariant.width) in
    omega (arith, c.loop-label.invariant.each a ea, c.requires.room a ea, tally_more_le c.args.after a c.args.column.now c.loop-label.label-index None c.loop-label-test.true)

pub loop-label-preserved : goal.loop-label-preserved
loop-label-preserved g c = record {
  width = omega arith;
  each = λ a ha.
      let ea : a < c.loop-label.labels.width = omega (arith, ha, c.loop-label.invariant.width) in
      omega (
        arith,
        c.loop-label.invariant.each a ha,
        c.shift_one.ensures.each a ea,
        tally_more c.args.before a c.args.column.now c.loop-label.label-index None c.loop-label-test.true,
        tally_more c.args.after a c.args.column.now c.loop-label.label-index None c.loop-label-test.true,
      );
  steps = omega (arith, c.loop-label.invariant.steps, c.shift_one.ensures.steps, raters_more c.args.column.now c.loop-label.label-index None c.loop-label-test.true);
}
