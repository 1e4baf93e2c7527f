use Rattle.std.proofs.Common.{refl}
use Rattle.project_journal.proofs.journal.Journal.keeps.Goals as goal

pub returns-clause-faultless : goal.returns-clause-faultless
returns-clause-faultless g c = λ faultless. faultless.0

pub returns-clause-stops : goal.returns-clause-stops
returns-clause-stops g c = λ t image left. (image, left, refl)

pub returns-clause-images : goal.returns-clause-images
returns-clause-images g c = λ t found left. left
