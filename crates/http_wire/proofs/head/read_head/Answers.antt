use Rattle.std.proofs.Common.{arith, ap, Err}
use Rattle.std.proofs.lemmas.List.{length-take}
use Rattle.http_wire.proofs.HeadLemmas.{long_head, never_head, settled}
use Rattle.http_wire.proofs.WindowLemmas.{lacks_head, room_suffices}
use Rattle.http_wire.proofs.head.read_head.Goals as goal

pub judge_head-requires-clause-short : goal.judge_head-requires-clause-short
judge_head-requires-clause-short c = rw c.front-window.ensures (omega (arith, length-take 16384 c.args.buf.now))

pub returns-in-Ok-Complete : goal.returns-in-Ok-Complete
returns-in-Ok-Complete c = settled c.args.buf.now c.judge_head.result (rw c.front-window.ensures at c.judge_head.ensures)

pub returns-then-buf-lt-LONGEST_HEAD : goal.returns-then-buf-lt-LONGEST_HEAD
returns-then-buf-lt-LONGEST_HEAD c =
    lacks_head c.args.buf.now (rw (c.in-Ok-Partial.field-0-is, c.front-window.ensures) at c.in-Ok-Partial.ensures.partial) (rw (c.in-Ok-Partial.field-0-is, c.front-window.ensures) at c.in-Ok-Partial.ensures.unfinished) c.if-buf-lt-LONGEST_HEAD.true

pub returns-else-buf-lt-LONGEST_HEAD : goal.returns-else-buf-lt-LONGEST_HEAD
returns-else-buf-lt-LONGEST_HEAD c =
    long_head c.args.buf.now (rw (c.in-Ok-Partial.field-0-is, c.front-window.ensures) at c.in-Ok-Partial.ensures.partial) (rw (c.in-Ok-Partial.field-0-is, c.front-window.ensures) at c.in-Ok-Partial.ensures.unfinished) c.if-buf-lt-LONGEST_HEAD.false

pub returns-in-Err : goal.returns-in-Err
returns-in-Err c =
    never_head c.args.buf.now
    (rw c.front-window.ensures at (c.in-Err.ensures.invalid
    (λ same. room_suffices c.args.buf.now (rw (c.front-window.ensures, c.requires) at (c.in-Err.ensures.too_many (ap Err same))))))
