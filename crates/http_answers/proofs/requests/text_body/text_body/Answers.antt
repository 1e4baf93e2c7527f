use Rattle.std.proofs.Common.{refl, sym}
use Rattle.std.proofs.lemmas.Str.{is_utf8-from_IsUtf8}
use Rattle.entry_bytes.proofs.Utf8Lemmas.{not_utf8}
use Rattle.http_answers.proofs.requests.text_body.text_body.Goals as goal

pub returns-in-Ok-clause-text : goal.returns-in-Ok-clause-text
returns-in-Ok-clause-text c = rw (is_utf8-from_IsUtf8 c.args.body.now c.in-Ok.ensures.cases.1, sym c.in-Ok.ensures.cases.0) c.document_of.ensures.text

pub returns-in-Ok-clause-fault : goal.returns-in-Ok-clause-fault
returns-in-Ok-clause-fault c = rw (is_utf8-from_IsUtf8 c.args.body.now c.in-Ok.ensures.cases.1, sym c.in-Ok.ensures.cases.0) c.document_of.ensures.fault

pub returns-in-Err-clause-fault : goal.returns-in-Err-clause-fault
returns-in-Err-clause-fault c = rw (not_utf8 c.args.body.now c.in-Err.ensures.cases.0) refl
