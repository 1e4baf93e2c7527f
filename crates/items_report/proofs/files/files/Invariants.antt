use Rattle.std.proofs.Common.{◌≡◌, take}
use Rattle.items_report.specs.ItemsTable.{files_of}
use Rattle.items_report.proofs.files.files.Given as goal

abbrev pub invariant-loop-i : goal.invariant-loop-i
invariant-loop-i l = l.files.items ≡ files_of l.conf l.doc (take l.i l.snapshot)
