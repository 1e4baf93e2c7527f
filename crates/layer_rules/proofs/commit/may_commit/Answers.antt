use Rattle.layer_rules.specs.WellFormed.{commit_fault}
use Rattle.layer_rules.proofs.CommitLemmas.{all_events, few_found, few_passed, few_nowhere}
use Rattle.layer_rules.proofs.commit.may_commit.Goals as goal

pub loop-number-init : goal.loop-number-init
loop-number-init c =
    all_events c.args.conf.now c.args.layer.now c.into_iter-number-iterator.result c.events-number-items.result.now.entries c.events-number-items.ensures
    c.into_iter-number-iterator.ensures.into_iter_gives.0 c.into_iter-number-iterator.ensures.into_iter_gives.5

pub returns-in-Some-too_few : goal.returns-in-Some-too_few
returns-in-Some-too_few c =
    few_found c.args.conf.now c.loop-number.number-iterator c.next.new.self c.in-Some.number.now c.in-Some.event.now c.in-Some-too_few.rule (commit_fault c.args.conf.now c.args.layer.now)
    c.in-Some.ensures.steps c.in-Some-too_few.ensures c.loop-number.invariant

pub loop-number-preserved : goal.loop-number-preserved
loop-number-preserved c =
    few_passed c.args.conf.now c.loop-number.number-iterator c.next.new.self c.in-Some.number.now c.in-Some.event.now (commit_fault c.args.conf.now c.args.layer.now)
    c.in-Some.ensures.steps c.in_default.ensures c.loop-number.invariant

pub returns : goal.returns
returns c = few_nowhere c.args.conf.now c.loop-number.number-iterator (commit_fault c.args.conf.now c.args.layer.now) c.in-None.ensures.steps.0 c.loop-number.invariant
