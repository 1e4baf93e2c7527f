use Rattle.project_machine.specs.History.{after}
use Rattle.annotation_http.proofs.ExchangesProofs.OpenedLemmas.{step_opened}
use Rattle.annotation_http.proofs.exchanges.laws.desks_can_be_opened.Goals as goal

pub returns : goal.returns
returns c = λ log caller asked legal. step_opened (after log) caller asked c.unflawed_layers.ensures.unflawed (c.states_can_be_restored.ensures.kept log legal)
