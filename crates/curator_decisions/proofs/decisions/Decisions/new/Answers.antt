use Rattle.std.proofs.Common.{◌≤◌, length, sym, subst, arith}
use Rattle.std.specs.List.Sorted.{IsStrictlySortedBy}
use Rattle.curator_decisions.specs.Decisions.{Ascend, Decided}
use Rattle.curator_decisions.proofs.decisions.Decisions.new.Goals as goal

pub invariant_of-result : goal.invariant_of-result
unfolding IsStrictlySortedBy
invariant_of-result c =
    let P : Decided → Type 0 = λ xs. Ascend xs × (length xs ≤ 4294967295) in
    subst P (sym c.new.ensures.items) (tt, omega arith)
