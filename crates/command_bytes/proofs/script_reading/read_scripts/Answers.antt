use Rattle.std.proofs.Common.{arith}
use Rattle.command_bytes.proofs.ScriptsReadLemmas.{read_found, read_none}
use Rattle.command_bytes.proofs.script_reading.read_scripts.Goals as goal

pub returns-clause-found : goal.returns-clause-found
returns-clause-found c = read_found c.args.conf.now c.args.doc.now c.args.bytes.now c.scripts_in.result (λ i. omega (arith, c.type_inv.bytes i)) c.scripts_in.ensures

pub returns-clause-none : goal.returns-clause-none
returns-clause-none c = read_none c.args.conf.now c.args.doc.now c.args.bytes.now c.scripts_in.result c.scripts_in.ensures
