use Rattle.demo_project.proofs.ReadLemmas.{step_reads}
use Rattle.demo_project.proofs.snapshots.read.Goals as goal

pub returns-clause-read : goal.returns-clause-read
returns-clause-read g c = step_reads _ _ _ _ _ c.requires c.ask.ensures.step
