use Rattle.program_inputs.proofs.ProjectFilesProofs.ToldLemmas.{not_opened}
use Rattle.program_inputs.proofs.project_files.named.look_at_project.Goals as goal

pub returns-in-Err-clause-refused : goal.returns-in-Err-clause-refused
returns-in-Err-clause-refused g c = not_opened c.in-Err.trouble _ _ c.in_ok-disk.ensures.reads c.in-Err.ensures.refused
