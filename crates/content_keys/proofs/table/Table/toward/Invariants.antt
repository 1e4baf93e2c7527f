use Rattle.std.proofs.Common.{◌≡◌, length}
use Rattle.content_keys.specs.Carrying.{AreMoves}
use Rattle.content_keys.proofs.table.Table.toward.Given as goal

abbrev pub invariant-loop-i : goal.invariant-loop-i
invariant-loop-i l = (length l.moves.items ≡ l.i) × AreMoves l.self l.other l.moves.items
