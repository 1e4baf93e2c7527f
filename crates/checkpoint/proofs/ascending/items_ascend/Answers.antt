use Rattle.std.proofs.Common.{◌≡◌, ◌+◌, ◌-◌, ◌<◌, ℕ, get_or, arith, subst}
use Rattle.curator_decisions.specs.Decisions.{item_rank}
use Rattle.checkpoint.proofs.OrderLemmas.{ascend_next}
use Rattle.checkpoint.proofs.OrderLemmas.{items_sorted}
use Rattle.checkpoint.proofs.ascending.items_ascend.Goals as goal

pub returns-then-before-here-clause-other : goal.returns-then-before-here-clause-other
returns-then-before-here-clause-other c = λ no up.
    let ps = c.args.pairs.now in
    let k = c.loop-place.place in
    let x = c.index-pairs-place.result in
    let y = c.index-pairs-place-in-loop-place.result in
    let back : k - 1 + 1 ≡ k = omega arith in
    let less : item_rank (get_or ps (k - 1) x).0 < item_rank (get_or ps k y).0 =
    subst (λ (n : ℕ). item_rank (get_or ps (k - 1) x).0 < item_rank (get_or ps n y).0) back (ascend_next ps (k - 1) x y up (omega (arith, back))) in
    omega (arith, less, c.if-before-here.true, c.item_rank-before.ensures, c.item_rank-here.ensures)

pub returns-clause-ascend : goal.returns-clause-ascend
returns-clause-ascend c = λ is. items_sorted c.loop-place.place c.args.pairs.now (omega (arith, c.loop-place-test.false)) c.loop-place.invariant
