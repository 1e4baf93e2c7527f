use Rattle.std.proofs.Common.{refl, sym, ◌∙◌}
use Rattle.project_state.specs.Values.{answer_of, asked_of}
use Rattle.annotation_http.proofs.ExchangesProofs.CarriedLemmas.{asked_given, lost_given, next_held}
use Rattle.annotation_http.proofs.exchanges.asking.take_out.Goals as goal

pub returns-in-Ok-clause-served : goal.returns-in-Ok-clause-served
returns-in-Ok-clause-served g c =
    asked_given c.answer_of-answer.result _ _ _ _ _ _ _ c.args.route.now c.args.who (asked_of c.args.request) (answer_of c.ask-reply.result) refl
    c.ask-reply.ensures.visited c.ask-reply.ensures.faultless (c.in-Ok.ensures.held ∙ sym (next_held _ _ _ _ _ c.requires.asks)) c.answer_of-answer.ensures.answer c.answer_of-answer.ensures.status

pub returns-in-Err-clause-served : goal.returns-in-Err-clause-served
returns-in-Err-clause-served g c =
    lost_given c.no_memory.result _ _ _ _ _ _ _ c.args.route.now c.args.who c.args.doc (asked_of c.args.request) (answer_of c.ask-reply.result) refl c.requires.asks
    c.ask-reply.ensures.visited c.ask-reply.ensures.faultless c.in-Err.ensures.out (c.in-Err.ensures.same ∙ c.requires.bare) c.no_memory.ensures.answer c.no_memory.ensures.status
