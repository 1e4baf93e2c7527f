use Rattle.std.proofs.Common.{sym, arith, inl, inr}
use Rattle.overlap_rules.proofs.CoverLemmas.{walks_left, walks_right, walks_met, walks_all}
use Rattle.overlap_rules.proofs.overlap.shares.Goals as goal

pub returns-else-other-one : goal.returns-else-other-one
returns-else-other-one c =
    let w = c.in-Some-Some in
    sym (walks_met c.args.a.now c.args.b.now c.loop-one.left.now c.loop-one.right.now w.one.now w.lefts.now w.other.now w.rights.now w.ensures.cases.0 w.ensures'.cases.0 (omega arith) (omega arith) c.loop-one.invariant)

pub loop-one-preserved-then-one-other : goal.loop-one-preserved-then-one-other
loop-one-preserved-then-one-other c =
    let w = c.in-Some-Some in
    walks_left c.args.a.now c.args.b.now c.loop-one.left.now c.loop-one.right.now w.one.now w.lefts.now w.other.now w.rights.now w.ensures.cases.0 w.ensures'.cases.0 (omega arith) c.loop-one.invariant

pub loop-one-preserved : goal.loop-one-preserved
loop-one-preserved c =
    let w = c.in-Some-Some in
    walks_right c.args.a.now c.args.b.now c.loop-one.left.now c.loop-one.right.now w.one.now w.lefts.now w.other.now w.rights.now w.ensures.cases.0 w.ensures'.cases.0 (omega arith) c.loop-one.invariant

pub returns-in_default : goal.returns-in_default
returns-in_default c = sym (walks_all c.args.a.now c.args.b.now c.loop-one.left.now c.loop-one.right.now c.loop-one.invariant (inr c.in_default.ensures'.cases))

pub returns-in_default-2 : goal.returns-in_default-2
returns-in_default-2 c = sym (walks_all c.args.a.now c.args.b.now c.loop-one.left.now c.loop-one.right.now c.loop-one.invariant (inl c.in_default.ensures.cases))
