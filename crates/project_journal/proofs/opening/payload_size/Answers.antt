use Rattle.std.proofs.Common.{arith}
use Rattle.project_journal.proofs.Wholes.{not_whole, short_not_whole, number_is, bytes_are}
use Rattle.project_journal.proofs.opening.payload_size.Goals as goal

pub returns-then-bytes-lt5-clause-none : goal.returns-then-bytes-lt5-clause-none
returns-then-bytes-lt5-clause-none c = short_not_whole c.args.bytes.now (omega arith)

pub returns-then-n-lt1-clause-none : goal.returns-then-n-lt1-clause-none
returns-then-n-lt1-clause-none c =
    not_whole c.args.bytes.now c.from_le_bytes-n.result (number_is c.args.bytes.now c.from_le_bytes-n.result (omega arith) c.from_le_bytes-n.ensures) (λ a b. omega (arith, a))

pub returns-then-n-gt16777216-clause-none : goal.returns-then-n-gt16777216-clause-none
returns-then-n-gt16777216-clause-none c =
    not_whole c.args.bytes.now c.from_le_bytes-n.result (number_is c.args.bytes.now c.from_le_bytes-n.result (omega arith) c.from_le_bytes-n.ensures) (λ a b. omega (arith, b))

pub returns-then-n-bytes-clause-none : goal.returns-then-n-bytes-clause-none
returns-then-n-bytes-clause-none c =
    not_whole c.args.bytes.now c.from_le_bytes-n.result (number_is c.args.bytes.now c.from_le_bytes-n.result (omega arith) c.from_le_bytes-n.ensures) (λ a b. omega arith)

pub returns-clause-some : goal.returns-clause-some
returns-clause-some c =
    let is = number_is c.args.bytes.now c.from_le_bytes-n.result (omega arith) c.from_le_bytes-n.ensures in
    (omega arith, omega arith, omega arith, bytes_are c.args.bytes.now c.from_le_bytes-n.result (omega arith) (λ i. let f = c.type_inv.bytes i in omega (arith, f)) is)
