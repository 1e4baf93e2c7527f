use Rattle.project_machine.specs.History.{after}
use Rattle.project_book.proofs.ViewLemmas.{read_accepted}
use Rattle.project_book.proofs.laws.views_are_accepted.Goals as goal

pub returns : goal.returns
returns c = λ log caller number view legal e. read_accepted (after log) caller number view (c.verdicts_are_accepted.ensures.accepted log legal) e
