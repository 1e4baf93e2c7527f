use Rattle.std.proofs.Common.{◌<◌, ◌-◌, length, take, sym, ◌∙◌, ap, arith}
use Rattle.std.specs.List.{list_all}
use Rattle.layer_model.specs.Classes.{joined}
use Rattle.layer_model.specs.Layers.{with_classes}
use Rattle.layer_core.specs.Backs.{has_some}
use Rattle.std.proofs.lemmas.List.{length-take-le}
use Rattle.layer_core.proofs.BackStepLemmas.{all_front, joined_step, last_is}
use Rattle.layer_core.proofs.ways_back.join_each.Goals as goal

pub loop-left-preserved : goal.loop-left-preserved
loop-left-preserved c =
    let left = c.loop-left.left.now in
    let layer = c.loop-left.layer in
    let class = c.class-item.result in
    let some : 0 < length left = omega (arith, c.in-len1-up.len_at_least) in
    let last = last_is left class some c.class-item.is in
    record {
      fits = all_front has_some (take (length left - 1) left) class (ap (list_all has_some) (sym last) ∙ c.loop-left.invariant.fits);
      same = joined_step layer c.join.new.layer c.args.layer.now left (take (length left - 1) left) c.args.classes.now class last
          (c.in_ok-join.ensures.done ∙ ap (λ members. with_classes layer (joined class.kind members layer.classes)) c.in_ok-copy.ensures) c.loop-left.invariant.same;
      short = omega (arith, length-take-le (length left - 1) left (omega arith), c.loop-left.invariant.short);
    }
