use Rattle.std.proofs.Common.{◌<◌, arith, refl, Some, None}
use Rattle.kappa_alpha.proofs.Toward.{toward_none_of, toward_more, toward_more_le, raters_more, raters_none}
use Rattle.kappa_alpha.proofs.coincidences.shift_toward.Goals as goal

pub loop-other-init : goal.loop-other-init
loop-other-init g c = record {
  width = refl;
  each = λ a b ha hb. omega (arith, toward_none_of c.args.before a b (Some c.args.x), toward_none_of c.args.after a b (Some c.args.x));
  steps = omega (arith, raters_none);
}

pub shift_both-requires-clause-enough : goal.shift_both-requires-clause-enough
shift_both-requires-clause-enough g c = λ a b ha hb.
    let ea : a < c.args.grid.now.width = omega (arith, ha, c.loop-other.invariant.width) in
    let eb : b < c.args.grid.now.width = omega (arith, hb, c.loop-other.invariant.width) in
    omega (arith, c.loop-other.invariant.each a b ea eb, c.requires.enough a b ea eb, toward_more_le c.args.before a b (Some c.args.x) c.args.others.now c.loop-other.other-index None c.loop-other-test.true)

pub shift_both-requires-clause-room : goal.shift_both-requires-clause-room
shift_both-requires-clause-room g c = λ a b ha hb.
    let ea : a < c.args.grid.now.width = omega (arith, ha, c.loop-other.invariant.width) in
    let eb : b < c.args.grid.now.width = omega (arith, hb, c.loop-other.invariant.width) in
    omega (arith, c.loop-other.invariant.each a b ea eb, c.requires.room a b ea eb, toward_more_le c.args.after a b (Some c.args.x) c.args.others.now c.loop-other.other-index None c.loop-other-test.true)

pub loop-other-preserved : goal.loop-other-preserved
loop-other-preserved g c = record {
  width = omega arith;
  each = λ a b ha hb.
      let ea : a < c.loop-other.grid.width = omega (arith, ha, c.loop-other.invariant.width) in
      let eb : b < c.loop-other.grid.width = omega (arith, hb, c.loop-other.invariant.width) in
      omega (
        arith,
        c.loop-other.invariant.each a b ha hb,
        c.shift_both.ensures.each a b ea eb,
        toward_more c.args.before a b (Some c.args.x) c.args.others.now c.loop-other.other-index None c.loop-other-test.true,
        toward_more c.args.after a b (Some c.args.x) c.args.others.now c.loop-other.other-index None c.loop-other-test.true,
      );
  steps = omega (arith, c.loop-other.invariant.steps, c.shift_both.ensures.steps, raters_more c.args.others.now c.loop-other.other-index None c.loop-other-test.true);
}
