use Rattle.std.proofs.Common.{◌≡◌, ◌<◌, ◌≤◌, ◌+◌, List, [], length, take, Some, Option, Vec, Global, ap, ◌∙◌, sym, subst, refl, arith, option_map}
use Rattle.std.specs.List.{filter_map, fold}
use Rattle.mark_base.specs.declared.ann_id.AnnId.{AnnId}
use Rattle.layer_model.specs.declared.class.Class.{Class}
use Rattle.layer_model.specs.Annotations.{Annotations}
use Rattle.layer_model.specs.Classes.{joined}
use Rattle.layer_model.specs.Layers.{with_classes}
use Rattle.curator_decisions.specs.Curated.{all_new}
use Rattle.curator_decisions.specs.Placing.{class_at, new_of}
use Rattle.curator_decisions.proofs.BuildLemmas.{all_new_long, fold_none, fold_one, joined_long}
use Rattle.curator_decisions.proofs.building.join_classes.Goals as goal
use Rattle.curator_decisions.proofs.building.join_classes.Goals.{in-Some+in_ok-join, in_default}

pub join-requires-clause-some : goal.join-requires-clause-some
join-requires-clause-some c =
    let new : AnnId → Option AnnId = new_of c.args.names.now in
    let class = c.class-item.result in
    let items : Option (Vec AnnId Global) → Option (List AnnId) = option_map (λ v. v.items) in
    let e : all_new new class.members ≡ Some c.in-Some.members.items = sym (c.in_ok-members.ensures ∙ ap (all_new new) c.items.ensures) ∙ ap items c.in-Some.is in
    let long : length c.in-Some.members.items ≡ length class.members = all_new_long new class.members c.in-Some.members.items e in
    let P : Class → Type 0 = λ x. 0 < length x.members in
    let some : 0 < length class.members = subst P (sym c.class-item.is) (c.requires.some c.loop-class.class-index class c.loop-class-test.true) in
    let same : length c.from_vec.result ≡ length c.in-Some.members.items = ap length c.from_vec.ensures in
    omega (arith, long, some, same)

pub loop-class-preserved : goal.loop-class-preserved
loop-class-preserved c =
    let new : AnnId → Option AnnId = new_of c.args.names.now in
    let join : List Class → Class → List Class = λ classes class. joined class.kind class.members classes in
    let classes = c.args.classes.now in
    let i = c.loop-class.class-index in
    let class = c.class-item.result in
    let begun = c.args.layer.now in
    let was = c.loop-class.layer in
    let items : Option (Vec AnnId Global) → Option (List AnnId) = option_map (λ v. v.items) in
    let made : List AnnId → Class = λ members. record { kind = class.kind; members = members } in
    let so : was.classes ≡ fold join [] (filter_map (class_at c.args.names.now) (take i classes)) = ap (λ (l : Annotations). l.classes) c.loop-class.invariant.layer in
    let found = sym (c.in_ok-members.ensures ∙ ap (all_new new) c.items.ensures) in
    elim c.match-branch-2.branch [
      | in-Some+in_ok-join w ↦
          let members = w.in-Some.members.items in
          let e = ap (option_map made) (found ∙ ap items w.in-Some.is) in
          let step : joined class.kind w.from_vec.result was.classes ≡ joined class.kind members was.classes = ap (λ ids. joined class.kind ids was.classes) w.from_vec.ensures in
          let after : c.match-branch-2.layer ≡ with_classes was (joined class.kind w.from_vec.result was.classes) = w.layer-is ∙ w.in_ok-join.ensures.ok in
          let long : length c.match-branch-2.layer.classes ≡ length (joined class.kind w.from_vec.result was.classes) = ap (λ (l : Annotations). length l.classes) after in
          let more : length (joined class.kind w.from_vec.result was.classes) ≤ length was.classes + 1 = joined_long class.kind w.from_vec.result was.classes in
          record {
            layer = after ∙ ap (λ (l : Annotations). with_classes l (joined class.kind w.from_vec.result was.classes)) c.loop-class.invariant.layer
                ∙ ap (with_classes begun) (fold_one (class_at c.args.names.now) join [] classes i class c.loop-class-test.true c.class-item.is (made members) e was.classes (joined class.kind w.from_vec.result was.classes) so step);
            few = omega (arith, long, more, c.loop-class.invariant.few);
          }
      | in_default w ↦
          let e = ap (option_map made) (found ∙ ap items w.in_default.is) in
          let same : length c.match-branch-2.layer.classes ≡ length was.classes = ap (λ (l : Annotations). length l.classes) w.layer-is in
          record {
            layer = w.layer-is ∙ c.loop-class.invariant.layer ∙ ap (with_classes begun) (fold_none (class_at c.args.names.now) join [] classes i class c.loop-class-test.true c.class-item.is e (fold join [] (filter_map (class_at c.args.names.now) (take i classes))) refl);
            few = omega (arith, same, c.loop-class.invariant.few);
          }
    ]
