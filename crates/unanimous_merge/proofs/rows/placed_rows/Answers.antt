use Rattle.std.proofs.Common.{ℕ, ◌+◌, ◌<◌, List, length, take, Some, sym, ap, ◌∙◌, subst, arith}
use Rattle.unanimous_merge.specs.Rows.{AreRows}
use Rattle.unanimous_merge.proofs.RowLemmas.{row_there, rows_more}
use Rattle.unanimous_merge.proofs.rows.placed_rows.Goals as goal
use Rattle.unanimous_merge.proofs.rows.placed_rows.Goals.{in-Some+in_ok-row+in_ok-push, in_default}

pub loop-i-preserved : goal.loop-i-preserved
loop-i-preserved c =
    let snapshot = c.args.snapshot.now in
    let i = c.loop-i.i in
    elim c.match-layer.branch [
      | in-Some+in_ok-row+in_ok-push w ↦
          let rows = c.match-layer.rows.items in
          let row = w.in_ok-row.row in
          let P : List ℕ → Type 0 = λ t. AreRows t rows (take (i + 1) snapshot) in
          subst P (sym w.table-is)
          (rows_more c.loop-i.table w.place.new.self w.in_ok-row.ensures.grown snapshot i w.deref.result.now (ap Some w.deref.ensures ∙ w.in-Some.ensures) c.loop-i.rows.items rows row (ap (λ v. v.items) w.rows-is ∙ w.in_ok-push.ensures.items)
          w.in_ok-row.ensures.contents w.in_ok-row.ensures.classes (w.in_ok-row.ensures.within, w.in_ok-row.ensures.classes_within) c.loop-i.invariant)
      | in_default w ↦
          let h : i < length snapshot = omega (arith, c.count-i-end.ensures.count) in
          absurd (row_there snapshot i h w.in_default.ensures)
    ]
