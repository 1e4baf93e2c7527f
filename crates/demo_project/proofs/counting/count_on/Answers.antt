use Rattle.std.proofs.Common.{rules}
use Rattle.demo_project.proofs.CountLemmas.{counts_all, counts_more, counts_none}
use Rattle.demo_project.proofs.counting.count_on.Goals as goal

pub loop-count-init : goal.loop-count-init
loop-count-init g c = record { going = search rules; counted = counts_none _ }

pub loop-count-preserved : goal.loop-count-preserved
loop-count-preserved g c = record { going = search rules; counted = counts_more _ _ _ _ _ c.loop-count.invariant.counted c.in-Ok.ensures.message }

pub returns-in-Err-End : goal.returns-in-Err-End
returns-in-Err-End g c = counts_all _ _ _ c.loop-count.invariant.counted (rw c.in-Err-End.field-0-is at c.in-Err-End.ensures.stop).0
