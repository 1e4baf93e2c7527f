use Rattle.std.proofs.Common.{◌≡◌, drop, map}
use Rattle.curator_decisions.specs.Naming.{lacked_at}
use Rattle.curator_decisions.proofs.naming.lacked.Given as goal

abbrev pub invariant-loop-other : goal.invariant-loop-other
invariant-loop-other l = lacked_at l.flags (map (λ row. row.items) l.merged.marks.items) l.decisions l.merged.firsts.items ≡ lacked_at l.flags (map (λ row. row.items) l.merged.marks.items) l.decisions (drop l.other-index l.merged.firsts.items)
