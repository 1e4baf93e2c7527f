use Rattle.std.proofs.Common.{sym, ap, ◌∙◌, Some}
use Rattle.http_wire.proofs.TextLemmas.{text_value_some, text_value_none}
use Rattle.http_wire.proofs.head.copy_value.Goals as goal

pub returns-in_ok-of-in-Ok : goal.returns-in_ok-of-in-Ok
returns-in_ok-of-in-Ok c =
    rw c.in-Some.is (ap Some (c.in_ok-of-in-Ok.ensures ∙ c.in-Ok.ensures.cases.0) ∙ sym (text_value_some _ c.in-Ok.ensures.cases.1))

pub returns-in-Err : goal.returns-in-Err
returns-in-Err c = rw c.in-Some.is (sym (text_value_none _ c.in-Err.ensures.cases.0))
