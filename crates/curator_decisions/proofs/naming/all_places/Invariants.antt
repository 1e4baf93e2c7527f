use Rattle.std.proofs.Common.{ℕ, take}
use Rattle.curator_decisions.specs.Placing.{AreNames}
use Rattle.curator_decisions.proofs.naming.all_places.Given as goal

abbrev pub invariant-loop-row : goal.invariant-loop-row
invariant-loop-row l = AreNames {T = ℕ} (λ at. at) (take l.row-index l.rows) l.all.items
