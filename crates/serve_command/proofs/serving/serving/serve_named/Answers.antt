use Rattle.std.proofs.Common.{Err, ap}
use Rattle.named_disks.specs.declared.disks.DisksFault.{DisksFault}
use Rattle.program_inputs.proofs.ProjectFilesProofs.ToldLemmas.{lacking}
use Rattle.serve_command.proofs.ServingProofs.EndLemmas.{ends_told}
use Rattle.serve_command.proofs.serving.serving.serve_named.Goals as goal

pub returns-in-Err-Absent-clause-ends : goal.returns-in-Err-Absent-clause-ends
returns-in-Err-Absent-clause-ends g c = lacking _ _ (c.in-Err-Absent.ensures.absent (ap (λ (fault : DisksFault). Err fault) c.in-Err-Absent.field-0-is))

pub returns-clause-ends : goal.returns-clause-ends
returns-clause-ends g c = ends_told _ _ _ _ _ _ _ c.serve_disk-disk.result.2 c.in-Ok.ensures.reads c.give_back.ensures.reads c.in-Ok.ensures.faultless c.serve_disk-disk.ensures.ends

pub returns-clause-stays : goal.returns-clause-stays
returns-clause-stays g c = λ f. c.give_back.ensures.faultless (c.in-Ok.ensures.faults.stays f) (c.serve_disk-disk.ensures.sure (c.in-Ok.ensures.faultless f))

pub returns-clause-never : goal.returns-clause-never
returns-clause-never g c = λ f. c.serve_disk-disk.ensures.never (c.in-Ok.ensures.faultless f)

pub returns-clause-unused : goal.returns-clause-unused
returns-clause-unused g c = λ f. c.serve_disk-disk.ensures.unused (c.in-Ok.ensures.faultless f)
