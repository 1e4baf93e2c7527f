use Rattle.std.proofs.Common.{◌≡◌, map, take}
use Rattle.curator_decisions.specs.Naming.{named_at}
use Rattle.curator_decisions.proofs.naming.all_named.Given as goal

abbrev pub invariant-loop-entry : goal.invariant-loop-entry
invariant-loop-entry l = map (λ of. of.items) l.names.items ≡ map (named_at l.snapshot l.all) (take l.entry-index l.entries)
