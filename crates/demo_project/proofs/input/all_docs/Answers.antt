use Rattle.demo_project.proofs.JoinedLemmas.{sent_more, sent_none}
use Rattle.demo_project.proofs.input.all_docs.Goals as goal

pub loop-doc-init : goal.loop-doc-init
loop-doc-init c = sent_none _ _

pub loop-doc-preserved : goal.loop-doc-preserved
loop-doc-preserved c = sent_more _ _ _ _ _ c.loop-doc.invariant c.in_ok-serve_doc.ensures
