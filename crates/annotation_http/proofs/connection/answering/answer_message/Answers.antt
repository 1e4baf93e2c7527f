use Rattle.annotation_http.proofs.ConnectionProofs.SessionLemmas.{answered_ends, lacking_ends}
use Rattle.annotation_http.proofs.connection.answering.answer_message.Goals as goal

pub returns-in-Ok-clause-told : goal.returns-in-Ok-clause-told
returns-in-Ok-clause-told g c =
    answered_ends _ _ _ _ c.in-Ok.answer _ _ _ _ _ _ _ c.in-Ok.ensures.served.0 (c.place-place.ensures c.exchange-answered.ensures.legal) c.is_last.ensures c.is_bodiless.ensures c.send_answer.ensures.told

pub returns-in-Err-clause-told : goal.returns-in-Err-clause-told
returns-in-Err-clause-told g c =
    lacking_ends _ _ _ _ _ _ _ _ _ c.in-Err.ensures.served (c.place-place.ensures c.exchange-answered.ensures.legal) c.end_unable.ensures.told
