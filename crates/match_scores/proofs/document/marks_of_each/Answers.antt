use Rattle.std.proofs.Common.{◌≡◌, List, [], ◌∷◌, ◌++◌, take, get_or, Option, None, sym, ap, subst, ◌∙◌}
use Rattle.std.specs.Option.{IfSome}
use Rattle.std.proofs.lemmas.List.{get_or_default, take_more}
use Rattle.layer_model.specs.Annotations.{Annotations}
use Rattle.layer_model.specs.Coherent.{IsCoherent}
use Rattle.match_scores.specs.declared.layer_in_table.Marks.{Marks}
use Rattle.match_scores.specs.Places.{AreMarked}
use Rattle.match_scores.proofs.DocumentLemmas.{marked_same}
use Rattle.match_scores.proofs.MarkLemmas.{marked_kept, marked_none, marked_push}
use Rattle.match_scores.proofs.document.marks_of_each.Goals as goal

pub loop-layer-init : goal.loop-layer-init
loop-layer-init c =
    let P : List (Option Marks) → Type 0 = λ l. AreMarked c.args.table.now [] l in
    subst P (sym c.new-marks.ensures.items) (marked_none c.args.table.now)

pub marks_of_one-requires : goal.marks_of_one-requires
marks_of_one-requires c =
    let i = c.loop-layer.layer-index in
    let P : Option Annotations → Type 0 = λ o. IfSome o IsCoherent in
    let e : c.layer-item.result ≡ get_or c.args.layers.now i None = c.layer-item.is ∙ get_or_default c.args.layers.now i c.layer-item.result None c.loop-layer-test.true in
    subst P (sym e) (c.requires i)

pub loop-layer-preserved : goal.loop-layer-preserved
loop-layer-preserved c =
    let i = c.loop-layer.layer-index in
    let layers = c.args.layers.now in
    let table = c.marks_of_one.new.table in
    let front : AreMarked table (take i layers) c.loop-layer.marks.items = marked_kept c.loop-layer.table table c.in_ok-placed.ensures.grown (take i layers) c.loop-layer.marks.items c.loop-layer.invariant in
    let more = take_more layers i c.layer-item.result c.loop-layer-test.true ∙ ap (λ x. take i layers ++ x ∷ []) (sym c.layer-item.is) in
    marked_same table (take i layers ++ c.layer-item.result ∷ []) _ (c.loop-layer.marks.items ++ c.in_ok-placed.placed ∷ []) _ more c.in_ok-push.ensures.items
    (marked_push table (take i layers) c.loop-layer.marks.items c.layer-item.result c.in_ok-placed.placed front c.in_ok-placed.ensures.marks)
