use Rattle.checkpoint.proofs.VerdictLemmas.{all_read, no_bytes, one_read, some_bytes, too_few, unread}
use Rattle.checkpoint.proofs.verdicts.pairs_of.Goals as goal

pub returns-then-rest-lt7 : goal.returns-then-rest-lt7
returns-then-rest-lt7 c = too_few c.args.bytes.now c.loop-rest.rest.now c.loop-rest.pairs.items c.loop-rest.invariant (some_bytes c.loop-rest.rest.now c.loop-rest-test.ensures) c.if-rest-lt7.true

pub returns-in-None : goal.returns-in-None
returns-in-None c = unread c.args.bytes.now c.loop-rest.rest.now c.split_at.result.0.now c.loop-rest.pairs.items c.loop-rest.invariant (some_bytes c.loop-rest.rest.now c.loop-rest-test.ensures) c.split_at.ensures.front c.in-None.ensures

pub loop-rest-preserved : goal.loop-rest-preserved
loop-rest-preserved c =
    one_read c.args.bytes.now c.loop-rest.rest.now c.split_at.result.0.now c.split_at.result.1.now c.loop-rest.pairs.items c.push.new.self.items c.in-Some.pair c.loop-rest.invariant (some_bytes c.loop-rest.rest.now c.loop-rest-test.ensures) c.split_at.ensures.front c.split_at.ensures.back c.in-Some.ensures
    c.in_ok-push-in-Some.ensures.items

pub returns : goal.returns
returns c = λ verdicts e. all_read c.args.bytes.now c.loop-rest.rest.now c.loop-rest.pairs.items verdicts c.loop-rest.invariant (no_bytes c.loop-rest.rest.now c.loop-rest-test.ensures) e
