use Rattle.std.proofs.Common.{Err, ap}
use Rattle.named_disks.specs.declared.disks.DisksFault.{DisksFault}
use Rattle.program_inputs.proofs.ProjectFilesProofs.ToldLemmas.{lacking}
use Rattle.program_inputs.proofs.project_files.named.take_disk.Goals as goal

pub returns-in-Err-Absent-clause-told : goal.returns-in-Err-Absent-clause-told
returns-in-Err-Absent-clause-told g c = lacking _ _ (c.in-Err-Absent.ensures.absent (ap (λ (fault : DisksFault). Err fault) c.in-Err-Absent.field-0-is))
