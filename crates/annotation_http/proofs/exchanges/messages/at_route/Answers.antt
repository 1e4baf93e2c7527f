use Rattle.std.proofs.Common.{◌≡◌, Option, None, List, ℕ, ap, rules}
use Rattle.http_answers.specs.declared.answer_bodies.message_fault.MessageFault.TheVariants as message
use Rattle.http_answers.specs.AnswerBodies.Refusals.{fault_answer}
use Rattle.annotation_http.specs.Exchanges.Connections.{connection_of}
use Rattle.annotation_http.specs.Exchanges.Plans.{by_caller, caller_of}
use Rattle.annotation_http.proofs.ExchangesProofs.CarriedLemmas.{refused_given, unable_given}
use Rattle.annotation_http.proofs.exchanges.messages.at_route.Goals as goal

pub returns-in-Ok-None-clause-served : goal.returns-in-Ok-None-clause-served
returns-in-Ok-None-clause-served g c =
    let none : caller_of c.args.message.now ≡ None = search rules in
    refused_given c.answer.result (fault_answer message.NoCaller) _ _ _ _ (ap (λ (o : Option (List ℕ)). by_caller (connection_of c.args.connection.now) c.args.route.now c.args.message.now.body o) none)
    c.answer.ensures.answer c.answer.ensures.status

pub returns-in-Err-clause-served : goal.returns-in-Err-clause-served
returns-in-Err-clause-served g c = unable_given c.no_memory.result _ _ _ _ c.no_memory.ensures.answer c.no_memory.ensures.status
