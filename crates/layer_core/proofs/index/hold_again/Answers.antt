use Rattle.std.proofs.Common.{sym}
use Rattle.layer_rules.proofs.OverlapLemmas.{good_ascending, good_some}
use Rattle.layer_core.proofs.IndexLemmas.{let_go, not_held_now, put_again}
use Rattle.layer_core.proofs.index.hold_again.Goals as goal

pub put-requires-clause-absent : goal.put-requires-clause-absent
put-requires-clause-absent c = not_held_now c.args.spans.now c.take.new.self c.args.number c.take.ensures.left

pub put-requires-clause-ascending : goal.put-requires-clause-ascending
put-requires-clause-ascending c = rw c.items.ensures (good_ascending c.in-Some.span.now.frags (c.requires.1 c.args.number c.in-Some.span.now (sym c.in-Some.ensures)).0)

pub put-requires-clause-some : goal.put-requires-clause-some
put-requires-clause-some c = rw c.items.ensures (good_some c.in-Some.span.now.frags (c.requires.1 c.args.number c.in-Some.span.now (sym c.in-Some.ensures)).0)

pub put-requires-clause-short : goal.put-requires-clause-short
put-requires-clause-short c = rw c.items.ensures (c.requires.1 c.args.number c.in-Some.span.now (sym c.in-Some.ensures)).1

pub returns-in_ok-put-in-Some : goal.returns-in_ok-put-in-Some
returns-in_ok-put-in-Some c =
    put_again c.args.layer.now c.args.spans.now c.take.new.self c.put.new.self c.args.number c.in-Some.span.now c.items.result.now c.take.ensures.left c.in_ok-put-in-Some.ensures.held
    c.items.ensures c.in-Some.ensures

pub returns-in-None : goal.returns-in-None
returns-in-None c = let_go c.args.layer.now c.args.spans.now c.take.new.self c.args.number c.take.ensures.left c.in-None.ensures
