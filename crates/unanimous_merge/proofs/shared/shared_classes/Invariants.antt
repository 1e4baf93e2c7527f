use Rattle.std.proofs.Common.{◌≡◌, map, take}
use Rattle.unanimous_merge.specs.Rows.{classes_at, each_has}
use Rattle.unanimous_merge.proofs.shared.shared_classes.Given as goal

abbrev pub invariant-loop-i : goal.invariant-loop-i
invariant-loop-i l = l.shared.items ≡ classes_at (each_has (map (λ row. row.items) l.standing)) (take l.i l.classes) (take l.i l.places)
