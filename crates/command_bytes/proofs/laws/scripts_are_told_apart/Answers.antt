use Rattle.command_bytes.proofs.CommandLemmas.{command_again, command_takes}
use Rattle.command_bytes.proofs.ScriptLemmas.{is_read, are_same}
use Rattle.command_bytes.proofs.laws.scripts_are_told_apart.Goals as goal

pub returns-clause-a_front : goal.returns-clause-a_front
returns-clause-a_front c = λ conf text bytes command rest fits read. let t = (command_takes conf text).takes bytes command rest fits read in (t.1, t.0.parts)

pub returns-clause-a_command : goal.returns-clause-a_command
returns-clause-a_command c = λ conf text c rest h. (command_again conf text).again c rest h

pub returns-clause-read_again : goal.returns-clause-read_again
returns-clause-read_again c = is_read

pub returns-clause-no_two : goal.returns-clause-no_two
returns-clause-no_two c = are_same
