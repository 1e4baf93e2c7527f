use Rattle.std.proofs.Common.{take, All}
use Rattle.layer_model.specs.Layers.{IsLayer}
use Rattle.unanimous_merge.proofs.rows.layers_keep.Given as goal

abbrev pub invariant-loop-i : goal.invariant-loop-i
invariant-loop-i l = All (λ row. IsLayer row.1) (take l.i l.snapshot)
