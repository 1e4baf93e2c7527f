use Rattle.std.proofs.Common.{◌≡◌, sym, ◌∙◌, ap, slice_get, arith}
use Rattle.std.specs.Map.{keys_of}
use Rattle.layer_model.proofs.Maps.{same_list}
use Rattle.layer_rules.proofs.FullLemmas.{index_here, index_over, index_past}
use Rattle.layer_rules.proofs.layer_full.number_at.Goals as goal

pub returns-then-len-index : goal.returns-then-len-index
returns-then-len-index g c =
    index_over c.args.map.now.entries _ c.args.index (same_list c.args.map.now.entries c.len.ensures.ordered) (let few = c.if-len-index.true in let count = c.len.ensures.len in omega arith)

pub returns-then-left-eq0 : goal.returns-then-left-eq0
returns-then-left-eq0 g c =
    index_here c.loop-number.number-iterator c.next.new.self c.in-Some.number.now _ c.loop-number.left _ c.in-Some.ensures.steps (let none : c.loop-number.left ≡ 0 = c.if-left-eq0.true in none) c.loop-number.invariant
    ∙ sym (ap (λ es. slice_get (keys_of es) c.args.index) (same_list c.args.map.now.entries c.into_iter-number-iterator.ensures.into_iter_gives.5))

pub returns : goal.returns
returns g c =
    index_past c.loop-number.number-iterator c.loop-number.left _ c.in-None.ensures.steps.0 c.loop-number.invariant
    ∙ sym (ap (λ es. slice_get (keys_of es) c.args.index) (same_list c.args.map.now.entries c.into_iter-number-iterator.ensures.into_iter_gives.5))
