use Rattle.std.proofs.Common.{inl, inr, sym, arith}
use Rattle.overlap_rules.proofs.OrderLemmas.{ascend_none, ascend_more, ascend_broken, ascend_all}
use Rattle.overlap_rules.proofs.order.are_ascending.Goals as goal
use Rattle.overlap_rules.proofs.order.are_ascending.Goals.{then-frag-end-via-then-frag-end, then-frag-end-via-else-frag-end+then-frag}

pub loop-frag-init : goal.loop-frag-init
loop-frag-init c = ascend_none c.args.frags.now

pub returns-then-frag-end : goal.returns-then-frag-end
returns-then-frag-end c =
    sym (ascend_broken c.args.frags.now c.loop-frag.rest.now c.in-Some.frag.now c.in-Some.later.now c.loop-frag.end c.in-Some.ensures.cases.0
    (elim c.then-frag-end.branch [
      | then-frag-end-via-then-frag-end w ↦ inl (let h = w.if-frag-end.true in omega arith)
      | then-frag-end-via-else-frag-end+then-frag w ↦ inr (let h = w.if-frag.true in omega arith)
    ]) c.loop-frag.invariant)

pub loop-frag-preserved : goal.loop-frag-preserved
loop-frag-preserved c =
    ascend_more c.args.frags.now c.loop-frag.rest.now c.in-Some.frag.now c.in-Some.later.now c.loop-frag.end c.in-Some.ensures.cases.0 (omega arith) (omega arith) c.loop-frag.invariant

pub returns : goal.returns
returns c = sym (ascend_all c.args.frags.now c.loop-frag.rest.now c.loop-frag.end c.in_default.ensures.cases c.loop-frag.invariant)
