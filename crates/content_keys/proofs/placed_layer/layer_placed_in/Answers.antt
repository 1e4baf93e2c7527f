use Rattle.content_keys.specs.LayerContents.{class_contents_of}
use Rattle.content_keys.specs.Nodes.{IsIn}
use Rattle.content_keys.specs.Places.{IsOfMark}
use Rattle.content_keys.specs.Tables.{values}
use Rattle.content_keys.proofs.OnlyLemmas.{all, class_among, mark_among, only_then, only_wider}
use Rattle.content_keys.proofs.BuiltLemmas.{coherent_built}
use Rattle.content_keys.proofs.placed_layer.layer_placed_in.Goals as goal

pub place_all-requires-clause-built : goal.place_all-requires-clause-built
place_all-requires-clause-built c = coherent_built c.args.layer.now c.requires

pub listed-requires-clause-built : goal.listed-requires-clause-built
listed-requires-clause-built c = coherent_built c.args.layer.now c.requires

pub returns-in_err-places-clause-only : goal.returns-in_err-places-clause-only
returns-in_err-places-clause-only c =
    let l = c.args.layer.now in
    only_wider (IsOfMark l) (λ n. IsIn n (all l)) (values c.args.table.now) (values c.place_all.new.table) (mark_among l) c.place_all.ensures.only

pub returns-in_err-classes-clause-only : goal.returns-in_err-classes-clause-only
returns-in_err-classes-clause-only c =
    let l = c.args.layer.now in
    only_then (λ n. IsIn n (all l)) c.args.table.now c.place_all.new.table c.place_classes.new.table c.place_classes.ensures.grown
    (only_wider (IsOfMark l) (λ n. IsIn n (all l)) (values c.args.table.now) (values c.place_all.new.table) (mark_among l) c.place_all.ensures.only)
    (only_wider (λ n. IsIn n (class_contents_of l)) (λ n. IsIn n (all l)) (values c.place_all.new.table) (values c.place_classes.new.table) (class_among l) c.place_classes.ensures.only)

pub returns-in_err-marks-clause-only : goal.returns-in_err-marks-clause-only
returns-in_err-marks-clause-only c =
    let l = c.args.layer.now in
    only_then (λ n. IsIn n (all l)) c.args.table.now c.place_all.new.table c.place_classes.new.table c.place_classes.ensures.grown
    (only_wider (IsOfMark l) (λ n. IsIn n (all l)) (values c.args.table.now) (values c.place_all.new.table) (mark_among l) c.place_all.ensures.only)
    (only_wider (λ n. IsIn n (class_contents_of l)) (λ n. IsIn n (all l)) (values c.place_all.new.table) (values c.place_classes.new.table) (class_among l) c.place_classes.ensures.only)

pub returns-clause-only : goal.returns-clause-only
returns-clause-only c =
    let l = c.args.layer.now in
    only_then (λ n. IsIn n (all l)) c.args.table.now c.place_all.new.table c.place_classes.new.table c.place_classes.ensures.grown
    (only_wider (IsOfMark l) (λ n. IsIn n (all l)) (values c.args.table.now) (values c.place_all.new.table) (mark_among l) c.place_all.ensures.only)
    (only_wider (λ n. IsIn n (class_contents_of l)) (λ n. IsIn n (all l)) (values c.place_all.new.table) (values c.place_classes.new.table) (class_among l) c.place_classes.ensures.only)
