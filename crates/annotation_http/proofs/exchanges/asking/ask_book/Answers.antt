use Rattle.std.proofs.Common.{refl, sym}
use Rattle.project_state.specs.Values.{answer_of, asked_of}
use Rattle.annotation_http.proofs.ExchangesProofs.CarriedLemmas.{asked_given, next_same}
use Rattle.annotation_http.proofs.exchanges.asking.ask_book.Goals as goal

pub returns-clause-served : goal.returns-clause-served
returns-clause-served g c =
    asked_given c.answer_of.result _ _ _ _ _ _ _ c.args.route.now c.args.caller.now (asked_of c.args.request) (answer_of c.ask-reply.result) refl
    c.ask-reply.ensures.visited c.ask-reply.ensures.faultless (sym (next_same _ _ _ _ c.requires.leaves)) c.answer_of.ensures.answer c.answer_of.ensures.status
