use Rattle.std.proofs.Common.{set, arith, rules, sym}
use Rattle.kappa_alpha.specs.Steps.{standing}
use Rattle.kappa_alpha.specs.Counted.{IsCount, adds}
use Rattle.kappa_alpha.proofs.Counts.{is_count_of, shaped_on}
use Rattle.kappa_alpha.proofs.RowLaws.{over_none, over_more_set, over_more_set_le, long_at, column_in, standing_few, label_in, token_within}
use Rattle.kappa_alpha.proofs.rows.replace_row.Goals as goal

pub loop-i-init : goal.loop-i-init
loop-i-init g c = record {
  shape = c.requires.shape;
  same = search rules;
  each = λ v h. omega (arith, over_none (adds v) (set c.args.rows.now c.args.rater c.args.before.now), over_none (adds v) (set c.args.rows.now c.args.rater c.args.after.now));
  steps = omega arith;
}

pub replace_token-requires-clause-long : goal.replace_token-requires-clause-long
replace_token-requires-clause-long g c = long_at c.args.rows.now c.args.tokens c.args.tallies.now.coincidences.width c.loop-i.i c.requires.fit c.loop-i-test.true

pub replace_token-requires-clause-column_in : goal.replace_token-requires-clause-column_in
replace_token-requires-clause-column_in g c =
    rw c.loop-i.invariant.shape.coincidences (column_in c.args.rows.now c.args.tokens c.args.tallies.now.coincidences.width c.loop-i.i c.requires.fit c.loop-i-test.true)

pub replace_token-requires-clause-few : goal.replace_token-requires-clause-few
replace_token-requires-clause-few g c = standing_few c.args.rows.now c.args.rater (omega (arith, c.requires.rater_in, c.requires.whole)) c.requires.out c.requires.fit.few

pub replace_token-requires-clause-x_in : goal.replace_token-requires-clause-x_in
replace_token-requires-clause-x_in g c =
    rw (c.loop-i.invariant.shape.coincidences, c.label-x.ensures.value) (label_in c.loop-i.i c.args.tallies.now.coincidences.width c.args.before.now (c.requires.before_fits.labels c.loop-i.i c.loop-i-test.true))

pub replace_token-requires-clause-y_in : goal.replace_token-requires-clause-y_in
replace_token-requires-clause-y_in g c =
    rw (c.loop-i.invariant.shape.coincidences, c.label-y.ensures.value) (label_in c.loop-i.i c.args.tallies.now.coincidences.width c.args.after.now (c.requires.after_fits.labels c.loop-i.i c.loop-i-test.true))

pub replace_token-requires-clause-enough : goal.replace_token-requires-clause-enough
replace_token-requires-clause-enough g c = λ v hv.
    let h : IsCount c.args.tallies.now.raters c.args.tallies.now.coincidences.width v = is_count_of _ _ _ _ v c.loop-i.invariant.shape.numbers c.loop-i.invariant.shape.coincidences hv in
    omega (arith, c.loop-i.invariant.each v h, c.requires.enough v h, over_more_set_le (adds v) c.args.rows.now c.args.rater c.args.before.now c.loop-i.i c.args.tokens c.label-x.result c.loop-i-test.true c.label-x.ensures.value)

pub replace_token-requires-clause-room : goal.replace_token-requires-clause-room
replace_token-requires-clause-room g c = λ v hv.
    let h : IsCount c.args.tallies.now.raters c.args.tallies.now.coincidences.width v = is_count_of _ _ _ _ v c.loop-i.invariant.shape.numbers c.loop-i.invariant.shape.coincidences hv in
    omega (arith, c.loop-i.invariant.each v h, c.requires.room v h, over_more_set_le (adds v) c.args.rows.now c.args.rater c.args.after.now c.loop-i.i c.args.tokens c.label-y.result c.loop-i-test.true c.label-y.ensures.value)

pub loop-i-preserved : goal.loop-i-preserved
loop-i-preserved g c = record {
  shape = shaped_on _ _ _ _ c.loop-i.invariant.shape c.replace_token.ensures.shape;
  same = search rules;
  each = λ v h.
      let hv : IsCount c.loop-i.tallies.raters c.loop-i.tallies.coincidences.width v = is_count_of _ _ _ _ v (sym c.loop-i.invariant.shape.numbers) (sym c.loop-i.invariant.shape.coincidences) h in
      omega (
        arith,
        c.loop-i.invariant.each v h,
        c.replace_token.ensures.each v hv,
        over_more_set (adds v) c.args.rows.now c.args.rater c.args.before.now c.loop-i.i c.label-x.result c.label-x.ensures.value,
        over_more_set (adds v) c.args.rows.now c.args.rater c.args.after.now c.loop-i.i c.label-y.result c.label-y.ensures.value,
      );
  steps = token_within c.loop-i.steps c.label-x.new.steps c.label-y.new.steps c.replace_token.new.steps (standing c.args.rows.now) c.loop-i.i c.args.steps.now c.args.before.now c.args.after.now c.label-x.result c.label-y.result
      c.label-x.ensures.value c.label-y.ensures.value c.loop-i.invariant.steps c.label-x.ensures.step c.label-y.ensures.step c.replace_token.ensures.steps;
}
