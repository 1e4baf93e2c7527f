use Rattle.demo_project.proofs.JoinedLemmas.{sent_on}
use Rattle.demo_project.proofs.input.works.Goals as goal

pub returns : goal.returns
returns c =
    sent_on _ _ _ _ _ (sent_on _ _ _ _ _ (sent_on _ _ _ _ _ (sent_on _ _ _ _ _ c.in_ok-check_out.ensures c.in_ok-marks.ensures) c.in_ok-commit.ensures) c.in_ok-park.ensures) c.in_ok-finish.ensures
