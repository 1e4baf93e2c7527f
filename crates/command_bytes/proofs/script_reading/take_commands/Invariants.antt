use Rattle.std.proofs.Common.{◌≡◌, ◌-◌}
use Rattle.command_bytes.specs.CommandReading.{list_on, command_at}
use Rattle.command_bytes.proofs.ListLemmas.{with_front}
use Rattle.command_bytes.proofs.script_reading.take_commands.Given as goal

abbrev pub invariant-loop : goal.invariant-loop
invariant-loop l = with_front l.commands.items (list_on (command_at l.conf l.doc) (l.count - l.counter) l.cursor) ≡ list_on (command_at l.conf l.doc) l.count l.initial.cursor
