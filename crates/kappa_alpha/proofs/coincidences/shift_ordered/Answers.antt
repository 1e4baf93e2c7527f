use Rattle.std.proofs.Common.{◌≡◌, ◌+◌, ◌<◌, ap, arith, None, get_or, length, drop}
use Rattle.std.specs.Option.{is_some}
use Rattle.kappa_alpha.specs.Columns.{toward, raters_in}
use Rattle.kappa_alpha.proofs.Toward.{ordered_drop, ordered_drop_le, ordered_past, raters_past, raters_drop, steps_step, rest_is}
use Rattle.kappa_alpha.proofs.coincidences.shift_ordered.Goals as goal

pub shift_first-requires-clause-enough : goal.shift_first-requires-clause-enough
shift_first-requires-clause-enough g c = λ a b ha hb.
    let ea : a < c.args.grid.now.width = omega (arith, ha, c.loop-i.invariant.width) in
    let eb : b < c.args.grid.now.width = omega (arith, hb, c.loop-i.invariant.width) in
    let hi : c.loop-i.i < length c.args.column.now = omega arith in
    omega (arith, c.loop-i.invariant.each a b ea eb, c.requires.enough a b ea eb, ap (toward c.args.before a b (get_or c.args.column.now c.loop-i.i None)) (rest_is c.args.column.now (c.loop-i.i + 1)), ordered_drop c.args.before a b c.args.column.now c.loop-i.i None hi, ordered_drop_le c.args.after a b c.args.column.now c.loop-i.i)

pub shift_first-requires-clause-room : goal.shift_first-requires-clause-room
shift_first-requires-clause-room g c = λ a b ha hb.
    let ea : a < c.args.grid.now.width = omega (arith, ha, c.loop-i.invariant.width) in
    let eb : b < c.args.grid.now.width = omega (arith, hb, c.loop-i.invariant.width) in
    let hi : c.loop-i.i < length c.args.column.now = omega arith in
    omega (arith, c.loop-i.invariant.each a b ea eb, c.requires.room a b ea eb, ap (toward c.args.after a b (get_or c.args.column.now c.loop-i.i None)) (rest_is c.args.column.now (c.loop-i.i + 1)), ordered_drop c.args.after a b c.args.column.now c.loop-i.i None hi, ordered_drop_le c.args.before a b c.args.column.now c.loop-i.i)

pub loop-i-preserved : goal.loop-i-preserved
loop-i-preserved g c =
    let hi : c.loop-i.i < length c.args.column.now = omega arith in
    record {
      width = omega arith;
      each = λ a b ha hb.
          let ea : a < c.loop-i.grid.width = omega (arith, ha, c.loop-i.invariant.width) in
          let eb : b < c.loop-i.grid.width = omega (arith, hb, c.loop-i.invariant.width) in
          omega (
            arith,
            c.loop-i.invariant.each a b ha hb,
            c.shift_first.ensures.each a b ea eb,
            ap (toward c.args.before a b (get_or c.args.column.now c.loop-i.i None)) (rest_is c.args.column.now (c.loop-i.i + 1)),
            ordered_drop c.args.before a b c.args.column.now c.loop-i.i None hi,
            ap (toward c.args.after a b (get_or c.args.column.now c.loop-i.i None)) (rest_is c.args.column.now (c.loop-i.i + 1)),
            ordered_drop c.args.after a b c.args.column.now c.loop-i.i None hi,
          );
      steps = steps_step (is_some (get_or c.args.column.now c.loop-i.i None)) _ _ _ _ _ _ (raters_drop c.args.column.now c.loop-i.i None hi) c.loop-i.invariant.steps (rw (← rest_is c.args.column.now (c.loop-i.i + 1)) c.shift_first.ensures.steps);
    }

pub returns-clause-each : goal.returns-clause-each
returns-clause-each g c = λ a b ha hb.
    omega (arith, c.loop-i.invariant.each a b ha hb, ordered_past c.args.before a b c.args.column.now c.loop-i.i (omega arith), ordered_past c.args.after a b c.args.column.now c.loop-i.i (omega arith))

pub returns-clause-steps : goal.returns-clause-steps
returns-clause-steps g c =
    let z : raters_in (drop c.loop-i.i c.args.column.now) ≡ 0 = raters_past c.args.column.now c.loop-i.i (omega arith) in
    let t = rw z at c.loop-i.invariant.steps in
    omega (arith, t)
