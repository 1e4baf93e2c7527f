use Rattle.std.proofs.Common.{take}
use Rattle.std.specs.List.{AllByRecursion}
use Rattle.command_bytes.specs.CommandValues.{IsCommand}
use Rattle.command_bytes.proofs.command_values.are_typed.Given as goal

abbrev pub invariant-loop-command : goal.invariant-loop-command
invariant-loop-command l = AllByRecursion IsCommand (take l.command-index l.commands)
