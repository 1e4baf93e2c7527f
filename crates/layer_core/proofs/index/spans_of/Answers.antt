use Rattle.std.proofs.Common.{◌∙◌, ap}
use Rattle.std.specs.FinMap as finite
use Rattle.layer_rules.proofs.OverlapLemmas.{good_ascending, good_some, not_held, seen_more, seen_none, stands_first}
use Rattle.layer_core.proofs.IndexLemmas.{all_seen}
use Rattle.layer_core.proofs.index.spans_of.Goals as goal

pub loop-number-init : goal.loop-number-init
loop-number-init c =
    seen_none c.args.layer.now c.into_iter-number-iterator.result c.spans-number-items.result.now.entries c.new-spans.result c.spans-number-items.ensures
    c.into_iter-number-iterator.ensures.into_iter_gives.0 c.into_iter-number-iterator.ensures.into_iter_gives.5 c.new-spans.ensures

pub put-requires-clause-absent : goal.put-requires-clause-absent
put-requires-clause-absent c =
    not_held c.args.layer.now c.loop-number.number-iterator c.next.new.self c.loop-number.spans c.in-Some.number.now c.in-Some.span.now c.in-Some.ensures.steps c.loop-number.invariant

pub put-requires-clause-ascending : goal.put-requires-clause-ascending
put-requires-clause-ascending c = rw c.items.ensures (good_ascending c.in-Some.span.now.frags (c.requires.1 c.in-Some.number.now c.in-Some.span.now (stands_first c.args.layer.now c.loop-number.number-iterator c.next.new.self c.loop-number.spans c.in-Some.number.now c.in-Some.span.now c.in-Some.ensures.steps c.loop-number.invariant)).0)

pub put-requires-clause-some : goal.put-requires-clause-some
put-requires-clause-some c = rw c.items.ensures (good_some c.in-Some.span.now.frags (c.requires.1 c.in-Some.number.now c.in-Some.span.now (stands_first c.args.layer.now c.loop-number.number-iterator c.next.new.self c.loop-number.spans c.in-Some.number.now c.in-Some.span.now c.in-Some.ensures.steps c.loop-number.invariant)).0)

pub put-requires-clause-short : goal.put-requires-clause-short
put-requires-clause-short c = rw c.items.ensures (c.requires.1 c.in-Some.number.now c.in-Some.span.now (stands_first c.args.layer.now c.loop-number.number-iterator c.next.new.self c.loop-number.spans c.in-Some.number.now c.in-Some.span.now c.in-Some.ensures.steps c.loop-number.invariant)).1

pub loop-number-preserved : goal.loop-number-preserved
loop-number-preserved c =
    seen_more c.args.layer.now c.loop-number.number-iterator c.next.new.self c.loop-number.spans c.put.new.self c.in-Some.number.now c.in-Some.span.now c.in-Some.ensures.steps
    (c.in_ok-put.ensures.held ∙ ap (finite.insert c.loop-number.spans c.in-Some.number.now) c.items.ensures) c.loop-number.invariant

pub returns : goal.returns
returns c = all_seen c.args.layer.now c.loop-number.number-iterator c.loop-number.spans c.in-None.ensures.steps.0 c.loop-number.invariant
