use Rattle.project_machine.specs.History.{after}
use Rattle.project_machine.proofs.LegalLemmas.{legal_kept}
use Rattle.project_machine.proofs.ViewLemmas.{read_kept}
use Rattle.project_machine.proofs.laws.views_can_be_curated.Goals as goal

pub returns : goal.returns
returns c = λ log caller number view legal is. read_kept (after log) caller number view (legal_kept log c.unflawed_layers.ensures.unflawed legal) is
