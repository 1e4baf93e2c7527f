use Rattle.std.proofs.Common.{◌≡◌, ◌-◌}
use Rattle.command_bytes.specs.CommandReading.{list_on, frag_at}
use Rattle.command_bytes.proofs.ListLemmas.{with_front}
use Rattle.command_bytes.proofs.read_fields.Cursor.take_frags_on.Given as goal

abbrev pub invariant-loop : goal.invariant-loop
invariant-loop l = with_front l.frags.items (list_on frag_at (l.count - l.counter) l.self) ≡ list_on frag_at l.count l.initial.self
