use Rattle.std.proofs.Common.{ℕ, ◌<◌, length, Some, ap, ◌∙◌, arith}
use Rattle.layer_model.specs.Layers.{IsLayer}
use Rattle.unanimous_merge.proofs.RowLemmas.{layers_more, row_there}
use Rattle.unanimous_merge.proofs.rows.layers_keep.Goals as goal
use Rattle.unanimous_merge.proofs.rows.layers_keep.Goals.{in-Some, in_default}

pub loop-i-preserved : goal.loop-i-preserved
loop-i-preserved c =
    let snapshot = c.args.snapshot.now in
    let i = c.loop-i.i in
    elim c.match-layer.branch [
      | in-Some w ↦ layers_more IsLayer snapshot i w.deref.result.now (ap Some w.deref.ensures ∙ w.in-Some.ensures) w.keeps.ensures c.loop-i.invariant
      | in_default w ↦
          let h : i < length snapshot = omega (arith, c.count-i-end.ensures.count) in
          absurd (row_there snapshot i h w.in_default.ensures)
    ]
