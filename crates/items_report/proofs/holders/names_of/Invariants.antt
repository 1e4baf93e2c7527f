use Rattle.std.proofs.Common.{◌≡◌, map, take}
use Rattle.items_report.specs.ItemsTable.{names_of}
use Rattle.items_report.proofs.holders.names_of.Given as goal

abbrev pub invariant-loop-i : goal.invariant-loop-i
invariant-loop-i l = map (λ name. name.now) l.names.items ≡ names_of (take l.i l.snapshot)
