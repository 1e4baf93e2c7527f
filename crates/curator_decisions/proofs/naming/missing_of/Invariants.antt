use Rattle.std.proofs.Common.{◌≡◌, drop, map}
use Rattle.curator_decisions.specs.Naming.{missing_at}
use Rattle.curator_decisions.proofs.naming.missing_of.Given as goal

abbrev pub invariant-loop-other : goal.invariant-loop-other
invariant-loop-other l =
    missing_at (map (λ row. row.items) l.merged.marks.items) l.decisions l.merged.firsts.items l.named ≡ missing_at (map (λ row. row.items) l.merged.marks.items) l.decisions (drop l.other-index l.merged.firsts.items) l.named
