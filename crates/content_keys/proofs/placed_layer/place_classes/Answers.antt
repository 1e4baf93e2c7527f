use Rattle.std.proofs.Common.{◌≡◌}
use Rattle.content_keys.specs.Nodes.{IsIn}
use Rattle.content_keys.specs.LayerContents.{class_content, class_contents_of, content_of}
use Rattle.content_keys.specs.Tables.{values}
use Rattle.content_keys.proofs.ClassLemmas.{class_contents, class_within, members_placed}
use Rattle.content_keys.proofs.OnlyLemmas.{class_of, only_then, only_wider}
use Rattle.content_keys.proofs.StartLemmas.{starts_trans}
use Rattle.content_keys.proofs.placed_layer.place_classes.Goals as goal

pub place_class-requires-clause-members : goal.place_class-requires-clause-members
place_class-requires-clause-members c =
    members_placed c.args.layer.now c.requires.whole c.args.places.now c.requires.placed c.classes-class-items.result.now c.loop-class.invariant.classes c.loop-class.class-index c.class-item.result c.loop-class-test.true c.class-item.is

pub loop-class-preserved : goal.loop-class-preserved
loop-class-preserved c =
    let l = c.args.layer.now in
    let ss = c.loop-class.table in
    let t = c.place_class.new.table in
    let old = c.loop-class.placed.items in
    let new = c.push.new.self.items in
    let p = c.in_ok-place.place in
    let kept = c.loop-class.invariant in
    let here = c.in_ok-place.ensures.content in
    let grown = c.in_ok-place.ensures.grown in
    record {
      right = c.in_ok-place.ensures.right;
      contents = class_contents l ss t grown old new p c.in_ok-push.ensures.items kept.within c.classes-class-items.result.now c.loop-class.class-index c.class-item.result c.loop-class-test.true c.class-item.is here.1 kept.contents;
      within = class_within l ss t grown old new p c.in_ok-push.ensures.items kept.within here.0;
      grown = starts_trans c.args.table.now ss t kept.grown grown;
      classes = kept.classes;
      only = only_then (λ n. IsIn n (class_contents_of l)) c.args.table.now ss t grown kept.only
          (only_wider (λ n. n ≡ class_content (content_of l) c.class-item.result) (λ n. IsIn n (class_contents_of l)) (values ss) (values t) (class_of l c.classes-class-items.result.now kept.classes c.loop-class.class-index c.class-item.result c.loop-class-test.true c.class-item.is) c.place_class.ensures.only);
    }

pub returns-in_err-place-clause-only : goal.returns-in_err-place-clause-only
returns-in_err-place-clause-only c =
    let l = c.args.layer.now in
    let ss = c.loop-class.table in
    let t = c.place_class.new.table in
    only_then (λ n. IsIn n (class_contents_of l)) c.args.table.now ss t c.place_class.ensures.grown c.loop-class.invariant.only
    (only_wider (λ n. n ≡ class_content (content_of l) c.class-item.result) (λ n. IsIn n (class_contents_of l)) (values ss) (values t) (class_of l c.classes-class-items.result.now c.loop-class.invariant.classes c.loop-class.class-index c.class-item.result c.loop-class-test.true c.class-item.is) c.place_class.ensures.only)

pub returns-in_err-push-clause-only : goal.returns-in_err-push-clause-only
returns-in_err-push-clause-only c =
    let l = c.args.layer.now in
    let ss = c.loop-class.table in
    let t = c.place_class.new.table in
    only_then (λ n. IsIn n (class_contents_of l)) c.args.table.now ss t c.place_class.ensures.grown c.loop-class.invariant.only
    (only_wider (λ n. n ≡ class_content (content_of l) c.class-item.result) (λ n. IsIn n (class_contents_of l)) (values ss) (values t) (class_of l c.classes-class-items.result.now c.loop-class.invariant.classes c.loop-class.class-index c.class-item.result c.loop-class-test.true c.class-item.is) c.place_class.ensures.only)

pub returns-clause-only : goal.returns-clause-only
returns-clause-only c = c.loop-class.invariant.only
