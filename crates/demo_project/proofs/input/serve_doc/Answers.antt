use Rattle.demo_project.proofs.JoinedLemmas.{sent_on}
use Rattle.demo_project.proofs.input.serve_doc.Goals as goal

pub returns : goal.returns
returns c =
    sent_on _ _ _ _ _ (sent_on _ _ _ _ _ (sent_on _ _ _ _ _ (sent_on _ _ _ _ _ c.in_ok-put_text.ensures c.in_ok-all_work.ensures) c.in_ok-snap.ensures) c.in_ok-accept.ensures) c.in_ok-read_curated.ensures
