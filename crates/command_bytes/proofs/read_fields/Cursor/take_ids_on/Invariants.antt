use Rattle.std.proofs.Common.{◌≡◌, ◌-◌}
use Rattle.command_bytes.specs.CommandReading.{list_on, ann_id_at}
use Rattle.command_bytes.proofs.ListLemmas.{with_front}
use Rattle.command_bytes.proofs.read_fields.Cursor.take_ids_on.Given as goal

abbrev pub invariant-loop : goal.invariant-loop
invariant-loop l = with_front l.ids.items (list_on ann_id_at (l.count - l.counter) l.self) ≡ list_on ann_id_at l.count l.initial.self
