use Rattle.std.proofs.Common.{◌≡◌, ◌+◌, ◌-◌, refl, arith}
use Rattle.http_wire.proofs.TakeLemmas.{front_message}
use Rattle.http_wire.proofs.next_message.take_front.Goals as goal

pub returns-clause-message : goal.returns-clause-message
returns-clause-message c =
    let size : c.args.head.len + c.args.head.size - c.args.head.len ≡ c.args.head.size = omega arith in
    front_message _ c.args.head _ _ c.requires.head c.requires.enough refl refl refl refl
    (rw (size, c.deref.ensures.value) at c.in_ok-body.ensures) (rw c.deref-2.ensures.value at c.in_ok-held.ensures)
