use Rattle.std.proofs.Common.{Err, ◌∙◌, ap, arith, refl, rules}
use Rattle.mark_base.proofs.FaultLemmas.{told_as}
use Rattle.http_wire.specs.declared.stop.Stop.{Stop}
use Rattle.annotation_http.specs.declared.connection.ending.Ending.{Ending}
use Rattle.annotation_http.proofs.ConnectionProofs.FaultLemmas.{not_err, same_err, told_around}
use Rattle.annotation_http.proofs.ConnectionProofs.SessionLemmas.{answers_for, served_none, served_more, session_closed, session_cut, session_spent, session_stops, session_unable, stops_at, unable_at}
use Rattle.annotation_http.proofs.connection.session.serve_messages.Goals as goal

pub returns-in-Err-clause-session : goal.returns-in-Err-clause-session
returns-in-Err-clause-session g c =
    rw c.end_unable.ensures.apart.left (session_unable _ _ _ _ _ _ (unable_at _ _ _ _ _ (c.place.ensures c.requires.legal) c.end_unable.ensures.told))

pub returns-in-Err-new-clause-session : goal.returns-in-Err-new-clause-session
returns-in-Err-new-clause-session g c =
    rw c.end_unable-in-Err-new.ensures.apart.left
    (session_unable _ _ _ _ _ _ (unable_at _ _ _ _ _ (c.place-in-Err-new.ensures c.requires.legal) c.end_unable-in-Err-new.ensures.told))

pub loop-count-init : goal.loop-count-init
loop-count-init g c = record {
  served = rw c.in-Ok-new.ensures.held (served_none _ _ _ _);
  going = search rules;
  reads = search rules;
  writes = search rules;
  legal = c.requires.legal;
  room = omega arith;
  badge = refl;
  stays = λ f. f;
}

pub returns-in-Err-next_message-clause-session : goal.returns-in-Err-next_message-clause-session
returns-in-Err-next_message-clause-session g c =
    rw c.end_stopped.ensures.apart.left
    (session_stops _ _ _ c.loop-count.count _ _ _ _ _ _ c.next_message.new.self.held c.in-Err-next_message.stop _ c.loop-count.invariant.served
    c.in-Err-next_message.ensures.kept c.in-Err-next_message.ensures.stop
    (stops_at c.loop-count.count _ _ _ _ _ _ (c.place-in-Err-next_message.ensures c.loop-count.invariant.legal) (rw (← c.next_message.ensures.apart.held) c.end_stopped.ensures.told)))

pub returns-in-Err-next_message-clause-read : goal.returns-in-Err-next_message-clause-read
returns-in-Err-next_message-clause-read g c =
    told_around _ _ _ _ c.loop-count.invariant.reads c.end_stopped.ensures.apart.read_faults
    (told_as _ _ (λ end. c.in-Err-next_message.is ∙ ap (λ (s : Stop). Err s) (c.end_stopped.ensures.read end))
    (λ stop. c.end_stopped.ensures.read_fault (same_err c.in-Err-next_message.is stop)) c.next_message.ensures.cause)

pub returns-in-Err-answer_message-clause-session : goal.returns-in-Err-answer_message-clause-session
returns-in-Err-answer_message-clause-session g c =
    rw c.answer_message.ensures.apart.left
    (session_cut _ _ _ _ c.loop-count.count _ _ _ _ _ _ c.next_message.new.self.held c.in-Ok-next_message.message c.in-Err-answer_message.ending
    (rw c.next_message.ensures.apart.held c.loop-count.invariant.served) c.in-Ok-next_message.ensures.message
    (answers_for _ _ _ _ _ _ _ _ _ c.loop-count.invariant.stays c.in-Err-answer_message.ensures.told))

pub returns-in-Err-answer_message-clause-write : goal.returns-in-Err-answer_message-clause-write
returns-in-Err-answer_message-clause-write g c =
    told_around _ _ _ _ (c.next_message.ensures.apart.write_faults ∙ c.loop-count.invariant.writes) refl
    (told_as _ _ (λ end. c.in-Err-answer_message.is ∙ ap (λ (e : Ending). Err e) end) (λ told. same_err c.in-Err-answer_message.is told) c.answer_message.ensures.cause)

pub returns-then-count-eq-MOST_ANSWERS-clause-session : goal.returns-then-count-eq-MOST_ANSWERS-clause-session
returns-then-count-eq-MOST_ANSWERS-clause-session g c =
    rw c.answer_message.ensures.apart.left
    (session_spent _ _ _ _ c.loop-count.count _ _ _ _ _ _ c.next_message.new.self.held c.in-Ok-next_message.message
    (rw c.next_message.ensures.apart.held c.loop-count.invariant.served) c.in-Ok-next_message.ensures.message
    (answers_for _ _ _ _ _ _ _ _ _ c.loop-count.invariant.stays c.in-Ok-answer_message.ensures.told)
    (omega (arith, c.if-count-eq-MOST_ANSWERS.true)))

pub returns-then-message-clause-session : goal.returns-then-message-clause-session
returns-then-message-clause-session g c =
    rw c.answer_message.ensures.apart.left
    (session_closed _ _ _ _ c.loop-count.count _ _ _ _ _ _ c.next_message.new.self.held c.in-Ok-next_message.message
    (rw c.next_message.ensures.apart.held c.loop-count.invariant.served) c.in-Ok-next_message.ensures.message
    (answers_for _ _ _ _ _ _ _ _ _ c.loop-count.invariant.stays c.in-Ok-answer_message.ensures.told)
    (search rules) (omega (arith, c.if-count-eq-MOST_ANSWERS.false, c.loop-count-test.true)))

pub loop-count-preserved : goal.loop-count-preserved
loop-count-preserved g c = record {
  served =
      rw c.answer_message.ensures.apart.left
      (served_more _ _ _ _ c.loop-count.count _ _ _ _ _ _ c.in-Ok-next_message.message (rw c.next_message.ensures.apart.held c.loop-count.invariant.served)
      c.in-Ok-next_message.ensures.message (answers_for _ _ _ _ _ _ _ _ _ c.loop-count.invariant.stays c.in-Ok-answer_message.ensures.told) (search rules)
      (omega (arith, c.if-count-eq-MOST_ANSWERS.false, c.loop-count-test.true)));
  going = search rules;
  reads = c.answer_message.ensures.apart.read_faults ∙ c.next_message.ensures.cause.still (not_err c.in-Ok-next_message.is) ∙ c.loop-count.invariant.reads;
  writes = c.answer_message.ensures.cause.still (not_err c.in-Ok-answer_message.is) ∙ c.next_message.ensures.apart.write_faults ∙ c.loop-count.invariant.writes;
  legal = c.answer_message.ensures.legal;
  room = omega (arith, c.answer_message.ensures.room, c.loop-count.invariant.room);
  badge = c.answer_message.ensures.badge ∙ c.loop-count.invariant.badge;
  stays = λ f. c.answer_message.ensures.stays (c.loop-count.invariant.stays f);
}
