use Rattle.std.proofs.Common.{◌≡◌, ℕ, ◌≤◌, List, Some, take, length, vec_len}
use Rattle.project_journal.specs.Disk.{NoMore}
use Rattle.project_journal.specs.Stops.{LeavesOnly}
use Rattle.project_journal.proofs.opening.read_all.Given as goal

abbrev pub invariant-pieces : goal.invariant-pieces
invariant-pieces g l = record {
  room : length l.room ≡ 4096;
  told : (f : List ℕ) → g.D.Disk.holds l.initial.disk ≡ Some f → l.bytes.items ≡ take (vec_len l.bytes) f;
  holds : g.D.Disk.holds l.disk ≡ g.D.Disk.holds l.initial.disk;
  images : NoMore (g.D.Disk.images l.initial.disk) (g.D.Disk.images l.disk);
  run : LeavesOnly g.D.Disk.moment g.D.Disk.left_since l.initial.disk l.disk (g.D.Disk.images l.initial.disk);
  later : g.D.Disk.faults l.initial.disk ≤ g.D.Disk.faults l.disk;
  still : g.D.Disk.faults l.disk ≡ g.D.Disk.faults l.initial.disk;
  faultless : g.D.Disk.faultless l.initial.disk → g.D.Disk.faultless l.disk × (g.D.Disk.faults l.disk ≡ g.D.Disk.faults l.initial.disk);
}
