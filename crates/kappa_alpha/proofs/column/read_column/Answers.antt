use Rattle.std.proofs.Common.{◌<◌, arith, rules, refl, length}
use Rattle.kappa_alpha.proofs.Toward.{raters_none}
use Rattle.kappa_alpha.proofs.ReadColumn.{column_step, raters_written, all_raters, all_taken}
use Rattle.kappa_alpha.proofs.column.read_column.Goals as goal

pub loop-s-init : goal.loop-s-init
loop-s-init g c = record { same = c.requires.same; front = refl; steps = omega (arith, raters_none) }

pub loop-s-preserved : goal.loop-s-preserved
loop-s-preserved g c =
    let h : c.loop-s.s < length c.loop-s.column = omega (arith, c.loop-s.invariant.same) in
    record {
      same = search rules;
      front = column_step _ _ _ _ _ c.index-rows-s.result h c.loop-s.invariant.same c.loop-s.invariant.front c.index-rows-s.is c.label.ensures.value;
      steps = omega (arith, c.loop-s.invariant.steps, c.label.ensures.step, raters_written c.loop-s.column c.loop-s.s c.label.result h);
    }

pub returns-clause-raters : goal.returns-clause-raters
returns-clause-raters g c = all_raters _ _ _ _ c.loop-s.invariant.same c.loop-s.invariant.front (omega arith)

pub returns-clause-steps : goal.returns-clause-steps
returns-clause-steps g c =
    omega (arith, c.loop-s.invariant.steps, all_taken 0 c.loop-s.column c.loop-s.s (omega (arith, c.loop-s.invariant.same)), all_raters _ _ _ _ c.loop-s.invariant.same c.loop-s.invariant.front (omega arith))
