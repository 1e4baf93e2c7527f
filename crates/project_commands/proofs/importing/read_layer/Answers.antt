use Rattle.std.proofs.Common.{inl}
use Rattle.project_commands.proofs.importing.read_layer.Goals as goal

pub returns-in-Err-clause-refused : goal.returns-in-Err-clause-refused
returns-in-Err-clause-refused g c = inl c.in-Err.ensures.refused
