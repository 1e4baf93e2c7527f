use Rattle.std.proofs.Common.{◌≡◌, ◌≤◌, length, length-set, set, sym, ◌∙◌, subst, arith}
use Rattle.std.specs.List.{insert}
use Rattle.curator_decisions.specs.Decisions.{Ascend, Decided, with_verdict}
use Rattle.curator_decisions.proofs.DecidedLemmas.{ascend_with}
use Rattle.curator_decisions.proofs.decisions.Decisions.set.Goals as goal

pub invariant_of-self : goal.invariant_of-self
invariant_of-self c =
    let xs = c.self.inside.decided.items in
    let kept = c.self.invariant in
    let is : with_verdict xs c.args.item c.args.verdict ≡ set xs c.in-Ok.i (c.args.item, c.args.verdict) = subst (λ (l : Decided). with_verdict l c.args.item c.args.verdict ≡ set l c.in-Ok.i (c.args.item, c.args.verdict)) c.as_slice.ensures.value (c.in-Ok.ensures.set c.args.verdict) in
    (subst Ascend is (ascend_with xs c.args.item c.args.verdict kept.0), (let few : length xs ≤ 4294967295 = kept.1 in let long : length (set xs c.in-Ok.i (c.args.item, c.args.verdict)) ≡ length xs = length-set xs c.in-Ok.i (c.args.item, c.args.verdict) in omega arith))

pub invariant_of-self-in-Err : goal.invariant_of-self-in-Err
invariant_of-self-in-Err c =
    let xs = c.self.inside.decided.items in
    let kept = c.self.invariant in
    let is : with_verdict xs c.args.item c.args.verdict ≡ insert xs c.in-Err.i (c.args.item, c.args.verdict) = subst (λ (l : Decided). with_verdict l c.args.item c.args.verdict ≡ insert l c.in-Err.i (c.args.item, c.args.verdict)) c.as_slice.ensures.value (c.in-Err.ensures.inserted c.args.verdict) in
    (subst Ascend (is ∙ sym c.in_ok-insert-in-Err.ensures.items) (ascend_with xs c.args.item c.args.verdict kept.0), omega (arith, c.in_ok-insert-in-Err.ensures.len, c.len.ensures, c.if-len-ge4294967295.false))
