use Rattle.std.proofs.Common.{◌≡◌, ℕ, ◌==◌, map, take}
use Rattle.std.specs.List.{list_any}
use Rattle.unanimous_merge.specs.Rows.{having}
use Rattle.unanimous_merge.proofs.standing.standing_marks.Given as goal

abbrev pub invariant-loop-row : goal.invariant-loop-row
invariant-loop-row l = (place : ℕ) → having place (map (λ row. row.items) l.standing.items) ≡ map (λ row. list_any (λ p. p.place == place) row.marks.items) (take l.row-index l.rows)
