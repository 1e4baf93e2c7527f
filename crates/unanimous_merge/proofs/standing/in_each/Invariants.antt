use Rattle.std.proofs.Common.{◌≡◌, map, drop}
use Rattle.std.specs.List.{list_all}
use Rattle.unanimous_merge.specs.Rows.{having}
use Rattle.unanimous_merge.proofs.standing.in_each.Given as goal

abbrev pub invariant-loop-row : goal.invariant-loop-row
invariant-loop-row l = list_all (λ one. one) (having l.place (map (λ row. row.items) l.rows)) ≡ list_all (λ one. one) (having l.place (map (λ row. row.items) (drop l.row-index l.rows)))
