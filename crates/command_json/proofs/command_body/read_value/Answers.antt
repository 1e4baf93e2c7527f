use Rattle.std.proofs.Common.{sym}
use Rattle.command_json.proofs.ValueLemmas.{value_of-text, value_of-none}
use Rattle.command_json.proofs.command_body.read_value.Goals as goal

pub returns-in-Ok : goal.returns-in-Ok
returns-in-Ok c = sym (value_of-text c.args.body.now _ c.in-Ok.ensures.ok.0 c.in-Ok.ensures.ok.1)

pub returns-else-is_memory : goal.returns-else-is_memory
returns-else-is_memory c = sym (value_of-none c.args.body.now (c.in-Err.ensures.err
    (λ memory. let a = c.is_memory.ensures.1 memory in let b = c.if-is_memory.false in cc)))
