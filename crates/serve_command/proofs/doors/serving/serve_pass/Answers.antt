use Rattle.serve_command.proofs.DoorsProofs.WorkerLemmas.{served_pass}
use Rattle.serve_command.proofs.doors.serving.serve_pass.Goals as goal

pub returns-clause-served : goal.returns-clause-served
returns-clause-served g c = served_pass c.badges_tell_passes.ensures _ _ _ _ c.new-guest.ensures.visiting c.into_pass.ensures.visiting c.serve_links-end.ensures.continues
