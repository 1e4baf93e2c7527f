use Rattle.std.proofs.Common.{◌≡◌, ◌++◌, length, take}
use Rattle.std.specs.List.{flat_map}
use Rattle.entry_bytes.specs.Fields.{u32_bytes}
use Rattle.project_machine.specs.Entries.{verdict_bytes}
use Rattle.checkpoint.proofs.verdicts.verdicts_written.Given as goal

abbrev pub invariant-loop-place : goal.invariant-loop-place
invariant-loop-place l = l.out.items ≡ u32_bytes (length l.decisions) ++ flat_map verdict_bytes (take l.place l.decisions)
