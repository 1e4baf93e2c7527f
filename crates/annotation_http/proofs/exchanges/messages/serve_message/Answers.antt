use Rattle.annotation_http.proofs.ExchangesProofs.CarriedLemmas.{unable_given}
use Rattle.annotation_http.proofs.exchanges.messages.serve_message.Goals as goal

pub returns-in-Err-clause-served : goal.returns-in-Err-clause-served
returns-in-Err-clause-served g c = unable_given c.no_memory.result _ _ _ _ c.no_memory.ensures.answer c.no_memory.ensures.status
