use Rattle.std.proofs.Common.{◌≡◌, length}
use Rattle.layer_core.specs.Regrouped.{beside}
use Rattle.layer_core.proofs.removal.beside.Given as goal

abbrev pub invariant-loop-left : goal.invariant-loop-left
invariant-loop-left l = beside l.kind.n l.id l.left ≡ beside l.kind.n l.id l.classes

abbrev pub decreases-loop-left : goal.decreases-loop-left
decreases-loop-left l = length l.left
