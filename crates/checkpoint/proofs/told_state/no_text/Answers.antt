use Rattle.std.proofs.Common.{◌<◌, ◌∙◌, [], ap, arith, length}
use Rattle.std.specs.Str.{chars}
use Rattle.std.proofs.lemmas.Str.{chars-nil}
use Rattle.checkpoint.proofs.told_state.no_text.Goals as goal

pub unreachable-requires : goal.unreachable-requires
unreachable-requires c =
    let long : 200000 < length (chars []) = c.in-Err-TooLong.ensures.long c.in-Err-TooLong.field-0-is in
    omega (arith, long, ap length chars-nil)

pub returns-in_ok-new-in-Ok : goal.returns-in_ok-new-in-Ok
returns-in_ok-new-in-Ok c = c.in_ok-new-in-Ok.ensures.ok ∙ (c.in-Ok.ensures.characters ∙ chars-nil)
