use Rattle.std.proofs.Common.{rules, sym}
use Rattle.std.proofs.lemmas.Str.{is_utf8-from_IsUtf8}
use Rattle.command_bytes.proofs.Utf8Lemmas.{not_utf8}
use Rattle.command_bytes.proofs.read_fields.name_of.Goals as goal

pub returns-in-Err : goal.returns-in-Err
returns-in-Err c = rw (not_utf8 c.args.bytes.now c.in-Err.ensures.cases.0) (search rules)

pub returns-in-Ok : goal.returns-in-Ok
returns-in-Ok c = rw (is_utf8-from_IsUtf8 c.args.bytes.now c.in-Ok.ensures.cases.1, sym c.in-Ok.ensures.cases.0) c.name_from.ensures
