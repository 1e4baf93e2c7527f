use Rattle.project_machine.specs.History.{after}
use Rattle.annotation_http.specs.Exchanges.Exchanges.{CanBeOpened}
use Rattle.annotation_http.proofs.ExchangesProofs.OpenedLemmas.{step_opened}
use Rattle.annotation_http.proofs.ExchangesProofs.VisitedLemmas.{visited_answer}
use Rattle.annotation_http.proofs.exchanges.asking.ask.Goals as goal

pub returns-clause-shown : goal.returns-clause-shown
returns-clause-shown g c = c.answers_can_be_shown.ensures.visited _ _ _ _ _ c.requires.legal c.ask.ensures.visited

pub returns-clause-opened : goal.returns-clause-opened
returns-clause-opened g c =
    visited_answer CanBeOpened _ _ _ _ _ c.requires.legal c.ask.ensures.visited
    (λ log legal. step_opened (after log) _ _ c.unflawed_layers.ensures.unflawed (c.states_can_be_restored.ensures.kept log legal)) tt tt
