use Rattle.std.proofs.Common.{◌<◌, arith, Some, None, length}
use Rattle.kappa_alpha.proofs.Toward.{raters_none, raters_more}
use Rattle.kappa_alpha.proofs.Shares.{shares_none, shares_more, shares_more_le}
use Rattle.kappa_alpha.proofs.pairs.shift_shares.Goals as goal

pub loop-s-init : goal.loop-s-init
loop-s-init g c = record {
  fit = c.requires.fit;
  each = λ p q a b pq hq ha hb. omega (arith, shares_none c.args.before c.args.r p q a b (Some c.args.x) c.args.others.now, shares_none c.args.after c.args.r p q a b (Some c.args.x) c.args.others.now);
  steps = omega (arith, raters_none);
}

pub shift_share-requires-clause-enough : goal.shift_share-requires-clause-enough
shift_share-requires-clause-enough g c = λ p q a b pq hq ha hb.
    let hs : c.loop-s.s < c.args.raters = omega (arith, c.loop-s-test.true) in
    omega (arith, c.loop-s.invariant.each p q a b pq hq ha hb, c.requires.enough p q a b pq hq ha hb, shares_more_le c.args.before c.args.r p q a b (Some c.args.x) c.args.others.now c.loop-s.s c.args.raters hs)

pub shift_share-requires-clause-room : goal.shift_share-requires-clause-room
shift_share-requires-clause-room g c = λ p q a b pq hq ha hb.
    let hs : c.loop-s.s < c.args.raters = omega (arith, c.loop-s-test.true) in
    omega (arith, c.loop-s.invariant.each p q a b pq hq ha hb, c.requires.room p q a b pq hq ha hb, shares_more_le c.args.after c.args.r p q a b (Some c.args.x) c.args.others.now c.loop-s.s c.args.raters hs)

pub loop-s-preserved : goal.loop-s-preserved
loop-s-preserved g c =
    let hs : c.loop-s.s < c.args.raters = omega (arith, c.loop-s-test.true) in
    let hl : c.loop-s.s < length c.args.others.now = omega (arith, hs, c.requires.whole) in
    record {
      fit = c.shift_share.ensures.fit;
      each = λ p q a b pq hq ha hb.
          omega (
            arith,
            c.loop-s.invariant.each p q a b pq hq ha hb,
            c.shift_share.ensures.each p q a b pq hq ha hb,
            shares_more c.args.before c.args.r p q a b (Some c.args.x) c.args.others.now c.loop-s.s,
            shares_more c.args.after c.args.r p q a b (Some c.args.x) c.args.others.now c.loop-s.s,
          );
      steps = omega (arith, c.loop-s.invariant.steps, c.shift_share.ensures.steps, raters_more c.args.others.now c.loop-s.s None hl);
    }
