use Rattle.std.proofs.Common.{◌≡◌, Ok, ap, arith}
use Rattle.http_wire.proofs.TakeLemmas.{fault_held, stops_at_end}
use Rattle.http_wire.proofs.next_message.await_head.Goals as goal

pub returns-in-Refused-clause-stop : goal.returns-in-Refused-clause-stop
returns-in-Refused-clause-stop g c = fault_held _ _ _ (rw (c.deref.ensures.value, c.in-Refused.is) at c.in_ok-head.ensures)

pub returns-in-Ok-eq0-clause-stop : goal.returns-in-Ok-eq0-clause-stop
returns-in-Ok-eq0-clause-stop g c =
    let none : c.in-Ok-eq0.field-0 ≡ 0 = omega (arith, c.in-Ok-eq0.field-0-test) in
    stops_at_end _ _ _ (c.in-Ok-eq0.ensures.end (ap Ok none)) (rw c.deref-in-Ok-eq0.ensures.value at c.stop_at_end.ensures.stop)
