use Rattle.annotation_http.proofs.ExchangesProofs.CarriedLemmas.{unable_given}
use Rattle.annotation_http.proofs.exchanges.asking.check_out.Goals as goal

pub returns-in_default-clause-served : goal.returns-in_default-clause-served
returns-in_default-clause-served g c = unable_given c.no_memory.result _ _ _ _ c.no_memory.ensures.answer c.no_memory.ensures.status

pub returns-in_default-copy-clause-served : goal.returns-in_default-copy-clause-served
returns-in_default-copy-clause-served g c =
    unable_given c.no_memory-in_default-copy.result _ _ _ _ c.no_memory-in_default-copy.ensures.answer c.no_memory-in_default-copy.ensures.status
