use Rattle.std.proofs.Common.{sym, ◌∙◌, subst}
use Rattle.http_answers.specs.Requests.Bodies.{IsFault}
use Rattle.http_answers.specs.Requests.Requests.{asked_on}
use Rattle.http_answers.specs.declared.answer_bodies.message_fault.MessageFault.TheVariants as message
use Rattle.http_answers.specs.AnswerBodies.Refusals.{fault_answer}
use Rattle.annotation_http.proofs.ExchangesProofs.CarriedLemmas.{refused_given, unable_given}
use Rattle.annotation_http.proofs.ExchangesProofs.PlanLemmas.{bad_body, long_text, second_desk}
use Rattle.annotation_http.proofs.exchanges.messages.at_book.Goals as goal

pub returns-then-is_second_desk-clause-served : goal.returns-then-is_second_desk-clause-served
returns-then-is_second_desk-clause-served g c =
    refused_given c.answer.result (fault_answer message.DeskHeld) _ _ _ _ (second_desk _ _ _ _ (sym c.is_second_desk.ensures ∙ c.if-is_second_desk.true)) c.answer.ensures.answer c.answer.ensures.status

pub returns-in-Err-BadBody-clause-served : goal.returns-in-Err-BadBody-clause-served
returns-in-Err-BadBody-clause-served g c =
    refused_given c.answer-in-Err-BadBody.result (fault_answer message.BadBody) _ _ _ _
    (bad_body _ _ _ _ (sym c.is_second_desk.ensures ∙ c.if-is_second_desk.false) (subst (IsFault (asked_on c.args.asked_at.now c.args.body.now)) c.in-Err-BadBody.field-0-is c.in-Err-BadBody.ensures.fault))
    c.answer-in-Err-BadBody.ensures.answer c.answer-in-Err-BadBody.ensures.status

pub returns-in-Err-TextTooLong-clause-served : goal.returns-in-Err-TextTooLong-clause-served
returns-in-Err-TextTooLong-clause-served g c =
    refused_given c.answer-in-Err-TextTooLong.result (fault_answer message.TextTooLong) _ _ _ _
    (long_text _ _ _ _ (sym c.is_second_desk.ensures ∙ c.if-is_second_desk.false) (subst (IsFault (asked_on c.args.asked_at.now c.args.body.now)) c.in-Err-TextTooLong.field-0-is c.in-Err-TextTooLong.ensures.fault))
    c.answer-in-Err-TextTooLong.ensures.answer c.answer-in-Err-TextTooLong.ensures.status

pub returns-in-Err-Memory-clause-served : goal.returns-in-Err-Memory-clause-served
returns-in-Err-Memory-clause-served g c = unable_given c.no_memory.result _ _ _ _ c.no_memory.ensures.answer c.no_memory.ensures.status
