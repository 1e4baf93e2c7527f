use Rattle.std.proofs.Common.{◌<◌, ◌∙◌, arith, sym}
use Rattle.checkpoint.proofs.FaultLemmas.{end_fault, next_fault}
use Rattle.checkpoint.proofs.restored.read_all.Goals as goal

pub returns-in-None-clause-refused : goal.returns-in-None-clause-refused
returns-in-None-clause-refused c =
    let k = c.loop-place.place in
    let some : 0 < k = omega arith in
    let none = rw c.in-None.is at c.in_ok-next.ensures in
    next_fault c.args.entries.now k c.index-entries-place.result c.loop-place.so_far some c.loop-place-test.true c.index-entries-place.is c.loop-place.invariant (sym c.is_ended.ensures ∙ c.if-is_ended.false) none

pub returns-else-is_ended-2-clause-refused : goal.returns-else-is_ended-2-clause-refused
returns-else-is_ended-2-clause-refused c =
    end_fault c.args.entries.now c.loop-place.place c.loop-place.so_far c.loop-place-test.false c.loop-place.invariant (sym c.is_ended-2.ensures ∙ c.if-is_ended-2.false)
