use Rattle.std.proofs.Common.{inl, inr}
use Rattle.project_commands.proofs.importing.read_schema.Goals as goal

pub returns-in-Err-clause-refused : goal.returns-in-Err-clause-refused
returns-in-Err-clause-refused g c = inl c.in-Err.ensures.refused

pub returns-in-Err-read_text-clause-refused : goal.returns-in-Err-read_text-clause-refused
returns-in-Err-read_text-clause-refused g c = inr (record { between = c.read_conf.new.project.log; refused = c.in-Err-read_text.ensures.refused })
