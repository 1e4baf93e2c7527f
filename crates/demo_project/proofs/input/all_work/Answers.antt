use Rattle.demo_project.proofs.JoinedLemmas.{sent_more, sent_none}
use Rattle.demo_project.proofs.input.all_work.Goals as goal

pub loop-rater-init : goal.loop-rater-init
loop-rater-init c = sent_none _ _

pub loop-rater-preserved : goal.loop-rater-preserved
loop-rater-preserved c = sent_more _ _ _ _ _ c.loop-rater.invariant c.in_ok-works.ensures
