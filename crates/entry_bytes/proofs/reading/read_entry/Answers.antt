use Rattle.std.proofs.Common.{arith}
use Rattle.entry_bytes.proofs.EntryLaws.{read_found, read_none}
use Rattle.entry_bytes.proofs.reading.read_entry.Goals as goal

pub returns-clause-found : goal.returns-clause-found
returns-clause-found c = read_found c.args.bytes.now c.entry_in.result (λ i. omega (arith, c.type_inv.bytes i)) c.entry_in.ensures

pub returns-clause-none : goal.returns-clause-none
returns-clause-none c = read_none c.args.bytes.now c.entry_in.result c.entry_in.ensures
