use Rattle.std.proofs.Common.{◌<◌, ◌-◌, length, take, sym, ◌∙◌, ap, arith}
use Rattle.std.specs.List.{list_all}
use Rattle.layer_core.specs.Backs.{fits_taken}
use Rattle.std.proofs.lemmas.List.{length-take-le}
use Rattle.layer_core.proofs.BackStepLemmas.{all_front, last_is, taken_step}
use Rattle.layer_core.proofs.ways_back.stand_each.Goals as goal

pub loop-left-preserved : goal.loop-left-preserved
loop-left-preserved c =
    let left = c.loop-left.left.now in
    let some : 0 < length left = omega (arith, c.in-len1-up.len_at_least) in
    let last = last_is left c.last-item.result some c.last-item.is in
    record {
      fits = all_front fits_taken (take (length left - 1) left) c.last-item.result (ap (list_all fits_taken) (sym last) ∙ c.loop-left.invariant.fits);
      same = taken_step c.loop-left.layer c.stand_again.new.layer c.args.layer.now left (take (length left - 1) left) c.args.taken.now c.last-item.result last c.in_ok-stand_again.ensures c.loop-left.invariant.same;
      short = omega (arith, length-take-le (length left - 1) left (omega arith), c.loop-left.invariant.short);
    }
