use Rattle.std.proofs.Common.{◌≡◌, ℕ, List, drop, map}
use Rattle.unanimous_merge.specs.declared.entry.Entry.{Entry}
use Rattle.curator_decisions.specs.Naming.{dependent_at}
use Rattle.curator_decisions.proofs.naming.dependent_on.Given as goal

abbrev pub invariant-loop-i : goal.invariant-loop-i
invariant-loop-i l =
    (named : Entry → List ℕ) → map (λ of. of.items) l.names ≡ map named l.merged.firsts.items
    → dependent_at named (map (λ row. row.items) l.merged.marks.items) l.decisions l.merged.firsts.items l.fn.place ≡ dependent_at named (map (λ row. row.items) l.merged.marks.items) l.decisions (drop l.i l.merged.firsts.items) l.fn.place
