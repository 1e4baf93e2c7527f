use Rattle.std.proofs.Common.{◌≡◌, ◌++◌, length, take}
use Rattle.std.specs.List.{flat_map}
use Rattle.entry_bytes.specs.Fields.{u32_bytes}
use Rattle.command_bytes.specs.CommandBytes.{command_bytes}
use Rattle.command_bytes.proofs.write_commands.put_script.Given as goal

abbrev pub invariant-loop-command : goal.invariant-loop-command
invariant-loop-command l = l.out.items ≡ l.fn.out.items ++ (u32_bytes (length l.commands) ++ flat_map (command_bytes l.conf l.doc) (take l.command-index l.commands))
