use Rattle.std.proofs.Common.{rules, true, false, [], append-nil}
use Rattle.layer_model.proofs.Gathering.{gathered}
use Rattle.layer_model.proofs.class_list.with_sharing.Goals as goal
use Rattle.layer_model.proofs.class_list.with_sharing.Goals.{then-shares+in_ok-extend_from_slice, else-shares}

pub loop-class-preserved : goal.loop-class-preserved
loop-class-preserved c =
    elim c.if-shares.branch [
      | then-shares+in_ok-extend_from_slice w ↦ gathered c.args.kind.n c.args.sought.now c.args.classes.now c.class-item.result c.loop-class.class-index true [] c.loop-class.all.items _ (search rules) (search rules) c.loop-class.invariant (search rules) (search rules)
      | else-shares w ↦ gathered c.args.kind.n c.args.sought.now c.args.classes.now c.class-item.result c.loop-class.class-index false [] c.loop-class.all.items _ (search rules) (search rules) c.loop-class.invariant (search rules) (rw append-nil (search rules))
    ]
