use Rattle.std.proofs.Common.{rules, sym}
use Rattle.std.proofs.lemmas.Str.{is_utf8-from_IsUtf8}
use Rattle.command_json.specs.Bodies.{value_of}
use Rattle.entry_bytes.proofs.Utf8Lemmas.{not_utf8}
use Rattle.http_answers.proofs.requests.json_fields.value_of.Goals as goal

pub returns-in-Err : goal.returns-in-Err
unfolding value_of
returns-in-Err c = rw (not_utf8 c.args.body.now c.in-Err.ensures.cases.0) (search rules)

pub returns-in-Ok : goal.returns-in-Ok
unfolding value_of
returns-in-Ok c = rw (is_utf8-from_IsUtf8 c.args.body.now c.in-Ok.ensures.cases.1, sym c.in-Ok.ensures.cases.0) c.value_in.ensures
