use Rattle.std.proofs.Common.{◌≡◌, false, bytes_eq, refl, rules}
use Rattle.http_answers.specs.declared.answer_bodies.message_fault.MessageFault.TheVariants as message
use Rattle.http_answers.specs.AnswerBodies.Refusals.{fault_answer}
use Rattle.annotation_http.specs.Exchanges.Connections.{holding_of}
use Rattle.annotation_http.proofs.ExchangesProofs.CarriedLemmas.{refused_given}
use Rattle.annotation_http.proofs.ExchangesProofs.PlanLemmas.{another_desk}
use Rattle.annotation_http.proofs.exchanges.desk_routes.at_desk.Goals as goal

pub returns-in-Bare-clause-served : goal.returns-in-Bare-clause-served
returns-in-Bare-clause-served g c = rw c.in-Bare.is (refused_given c.answer.result (fault_answer message.NoDesk) _ _ _ _ refl c.answer.ensures.answer c.answer.ensures.status)

pub returns-then-ne-clause-served : goal.returns-then-ne-clause-served
returns-then-ne-clause-served g c =
    let other : bytes_eq c.in-Held.held.who c.args.caller.now ≡ false = search rules in
    rw c.in-Held.is
    (refused_given c.answer-then-ne.result (fault_answer message.NotYours) _ _ _ _ (another_desk (holding_of c.in-Held.held) c.args.caller.now c.args.route c.args.body.now other)
    c.answer-then-ne.ensures.answer c.answer-then-ne.ensures.status)
