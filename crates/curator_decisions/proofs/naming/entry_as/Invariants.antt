use Rattle.std.proofs.Common.{◌≡◌, drop}
use Rattle.curator_decisions.specs.Naming.{entry_as}
use Rattle.curator_decisions.proofs.naming.entry_as.Given as goal

abbrev pub invariant-loop-entry : goal.invariant-loop-entry
invariant-loop-entry l = entry_as l.entries l.fn.item ≡ entry_as (drop l.entry-index l.entries) l.fn.item
