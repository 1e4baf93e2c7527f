use Rattle.std.proofs.Common.{◌≡◌, Bool, List, map, sym, ap, ◌∙◌, ◌++◌, ◌∷◌, []}
use Rattle.layer_model.specs.declared.class.Class.{Class}
use Rattle.unanimous_merge.specs.Rows.{each_has}
use Rattle.unanimous_merge.proofs.SharedLemmas.{class_left, class_shared}
use Rattle.unanimous_merge.proofs.shared.shared_classes.Goals as goal
use Rattle.unanimous_merge.proofs.shared.shared_classes.Goals.{then-in_each+in_ok-members+in_ok-push, else-in_each}

pub loop-i-preserved : goal.loop-i-preserved
loop-i-preserved c =
    let standing : List (List Bool) = map (λ row. row.items) c.args.standing.now in
    let classes = c.args.classes.now in
    let places = c.args.places.now in
    let i = c.loop-i.i in
    elim c.if-in_each.branch [
      | then-in_each+in_ok-members+in_ok-push w ↦
          let class : Class = w.index-classes-i.result in
          let copied : Class = record { kind = class.kind; members = w.in_ok-members.members } in
          let same : copied ≡ class = λ j. record { kind = class.kind; members = w.in_ok-members.ensures j } in
          ap (λ v. v.items) w.shared-is
          ∙ class_shared (each_has standing) classes places c.requires i c.loop-i-test.true class w.index-classes-i.is (sym c.in_each.ensures ∙ w.if-in_each.true) c.loop-i.shared.items w.push.new.self.items c.loop-i.invariant (w.in_ok-push.ensures.items ∙ ap (λ x. c.loop-i.shared.items ++ x ∷ []) same)
      | else-in_each w ↦ ap (λ v. v.items) w.shared-is ∙ class_left (each_has standing) classes places c.requires i c.loop-i-test.true (sym c.in_each.ensures ∙ w.if-in_each.false) c.loop-i.shared.items c.loop-i.invariant
    ]
