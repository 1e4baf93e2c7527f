use Rattle.demo_project.proofs.JoinedLemmas.{sent_more, sent_none}
use Rattle.demo_project.proofs.input.marks.Goals as goal

pub loop-word-init : goal.loop-word-init
loop-word-init c = sent_none _ _

pub loop-word-preserved : goal.loop-word-preserved
loop-word-preserved c = sent_more _ _ _ _ _ c.loop-word.invariant c.in_ok-mark.ensures
