use Rattle.std.proofs.Common.{◌≡◌, drop}
use Rattle.project_journal.specs.DiskFails.{fate_of}
use Rattle.project_journal.proofs.disk_fails.fate.Given as goal

abbrev pub invariant-loop-fail : goal.invariant-loop-fail
invariant-loop-fail l = fate_of l.fails l.call ≡ fate_of (drop l.fail-index l.fails) l.call
