use Rattle.project_book.proofs.AcceptLemmas.{legal_accepted}
use Rattle.project_book.proofs.laws.verdicts_are_accepted.Goals as goal

pub returns-clause-accepted : goal.returns-clause-accepted
returns-clause-accepted c = λ log legal. legal_accepted c.decisions_stay_accepted.ensures.decide c.decisions_stay_accepted.ensures.undecide c.undecided_layers_are_accepted.ensures log c.unflawed_layers.ensures.unflawed legal

pub returns-clause-sound : goal.returns-clause-sound
returns-clause-sound c = λ log legal free low.
    c.states_can_be_restored.ensures.restored log legal (legal_accepted c.decisions_stay_accepted.ensures.decide c.decisions_stay_accepted.ensures.undecide c.undecided_layers_are_accepted.ensures log c.unflawed_layers.ensures.unflawed legal) free low
