use Rattle.std.proofs.Common.{◌≡◌, ap, rules}
use Rattle.http_answers.specs.declared.routes.found.Found.{Found}
use Rattle.http_answers.specs.declared.routes.found.Found.TheVariants as found
use Rattle.http_answers.specs.Routes.Found.{found_by}
use Rattle.http_answers.specs.declared.answer_bodies.message_fault.MessageFault.TheVariants as message
use Rattle.http_answers.specs.AnswerBodies.Refusals.{fault_answer}
use Rattle.annotation_http.specs.Exchanges.Connections.{connection_of}
use Rattle.annotation_http.specs.Exchanges.Plans.{by_found, planned}
use Rattle.annotation_http.proofs.ExchangesProofs.CarriedLemmas.{refused_given, unable_given}
use Rattle.annotation_http.proofs.exchanges.messages.at_path.Goals as goal

pub returns-in-Ok-NoRoute-clause-served : goal.returns-in-Ok-NoRoute-clause-served
unfolding planned
returns-in-Ok-NoRoute-clause-served g c =
    let none : found_by c.args.message.now.method c.args.message.now.path ≡ found.NoRoute = search rules in
    refused_given c.answer.result (fault_answer message.NoRoute) _ _ _ _ (ap (λ (f : Found). by_found (connection_of c.args.connection.now) c.args.message.now f) none)
    c.answer.ensures.answer c.answer.ensures.status

pub returns-in-Ok-NoMethod-clause-served : goal.returns-in-Ok-NoMethod-clause-served
unfolding planned
returns-in-Ok-NoMethod-clause-served g c =
    let none : found_by c.args.message.now.method c.args.message.now.path ≡ found.NoMethod = search rules in
    refused_given c.answer-in-Ok-NoMethod.result (fault_answer message.NoMethod) _ _ _ _ (ap (λ (f : Found). by_found (connection_of c.args.connection.now) c.args.message.now f) none)
    c.answer-in-Ok-NoMethod.ensures.answer c.answer-in-Ok-NoMethod.ensures.status

pub returns-in-Err-clause-served : goal.returns-in-Err-clause-served
returns-in-Err-clause-served g c = unable_given c.no_memory.result _ _ _ _ c.no_memory.ensures.answer c.no_memory.ensures.status
