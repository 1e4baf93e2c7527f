use Rattle.std.proofs.Common.{◌≡◌, ◌++◌, length, take}
use Rattle.std.specs.List.{flat_map}
use Rattle.entry_bytes.specs.Fields.{u32_bytes}
use Rattle.command_bytes.specs.CommandBytes.{id_bytes}
use Rattle.command_bytes.proofs.write_fields.put_ids.Given as goal

abbrev pub invariant-loop-id : goal.invariant-loop-id
invariant-loop-id l = l.out.items ≡ l.fn.out.items ++ (u32_bytes (length l.items) ++ flat_map id_bytes (take l.id-index l.items))
