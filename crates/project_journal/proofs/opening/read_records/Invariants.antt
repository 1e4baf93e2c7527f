use Rattle.std.proofs.Common.{◌<◌, ◌-◌, length, take}
use Rattle.project_journal.specs.RecordLaws.{AreEntries}
use Rattle.project_journal.specs.Settled.{IsFront}
use Rattle.project_journal.proofs.opening.read_records.Given as goal

abbrev pub invariant-records : goal.invariant-records
invariant-records l = record {
  front : IsFront (take l.gate l.bytes) l.entries.items;
  within : l.gate < length l.bytes;
  are : AreEntries l.entries.items;
}

abbrev pub decreases-records : goal.decreases-records
decreases-records l = length l.bytes - l.gate
