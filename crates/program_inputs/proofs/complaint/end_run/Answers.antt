use Rattle.program_inputs.proofs.Troubles.{complains_some}
use Rattle.program_inputs.proofs.complaint.end_run.Goals as goal

pub returns-in-Err-clause-done : goal.returns-in-Err-clause-done
returns-in-Err-clause-done g c = λ is. absurd (complains_some _ _ _ _ _ _ _ c.complain.ensures.told is)
