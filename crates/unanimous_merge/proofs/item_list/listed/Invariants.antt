use Rattle.std.proofs.Common.{◌≡◌, map, take}
use Rattle.unanimous_merge.specs.Rows.{item_at}
use Rattle.unanimous_merge.proofs.item_list.listed.Given as goal

abbrev pub invariant-loop-entry : goal.invariant-loop-entry
invariant-loop-entry l = l.listed.items ≡ map (item_at (map (λ row. row.items) l.standing)) (take l.entry-index l.firsts)
