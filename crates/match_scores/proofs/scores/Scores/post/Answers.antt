use Rattle.std.proofs.Common.{◌≡◌, ◌<◌, List, [], Option, Some, length, set, sym, ap, ◌∙◌, arith}
use Rattle.std.proofs.lemmas.List.{get_or_default, with_items_is}
use Rattle.layer_model.specs.Annotations.{Annotations}
use Rattle.match_scores.specs.declared.tally.Tallies.{Tallies}
use Rattle.match_scores.specs.Standing.{Standing, document_at}
use Rattle.match_scores.specs.Places.{IsFew}
use Rattle.match_scores.proofs.ScoreLemmas.{after_same, after_set, document_enough, document_room, on_both, on_outcome}
use Rattle.match_scores.proofs.scores.Scores.post.Goals as goal

pub post-requires-clause-enough : goal.post-requires-clause-enough
post-requires-clause-enough c =
    let documents = c.self.inside.documents.items in
    let h : c.args.doc < length documents = omega (arith, c.requires.doc_in, ap (λ (s : Standing). length s.documents) c.self.view_is) in
    let is : c.index_mut-document.result.now ≡ document_at documents c.args.doc = c.index_mut-document.ensures.value ∙ get_or_default documents c.args.doc c.index_mut-document.result.now [] h in
    document_enough c.self.inside.raters documents c.self.inside.totals.items c.self.invariant c.args.doc h c.index_mut-document.result.now is c.as_mut_slice.result.now c.as_mut_slice.ensures.value

pub post-requires-clause-room : goal.post-requires-clause-room
post-requires-clause-room c =
    let documents = c.self.inside.documents.items in
    let h : c.args.doc < length documents = omega (arith, c.requires.doc_in, ap (λ (s : Standing). length s.documents) c.self.view_is) in
    let is : c.index_mut-document.result.now ≡ document_at documents c.args.doc = c.index_mut-document.ensures.value ∙ get_or_default documents c.args.doc c.index_mut-document.result.now [] h in
    λ a b sort part k l few. document_room c.self.inside.raters documents c.self.inside.totals.items c.self.invariant c.args.doc h c.index_mut-document.result.now is c.as_mut_slice.result.now c.as_mut_slice.ensures.value c.args.rater (Some c.args.layer.now) few a b sort part k l

pub invariant_of-self : goal.invariant_of-self
invariant_of-self c =
    let documents = c.self.inside.documents.items in
    let v = c.self.inside.totals in
    let h : c.args.doc < length documents = omega (arith, c.requires.doc_in, ap (λ (s : Standing). length s.documents) c.self.view_is) in
    let is : c.index_mut-document.result.now ≡ document_at documents c.args.doc = c.index_mut-document.ensures.value ∙ get_or_default documents c.args.doc c.index_mut-document.result.now [] h in
    let same : length c.post.new.totals ≡ length c.as_mut_slice.result.now = c.post.auto.totals in
    let size : length c.post.new.totals ≡ v.len = same ∙ ap (λ (l : List Tallies). length l) c.as_mut_slice.ensures.value ∙ sym v.ok.0 in
    let layers = c.index_mut-document.result.now in
    let o : Option Annotations = Some c.args.layer.now in
    on_outcome ((c.post.new.self ≡ set layers c.args.rater o) × IsFew c.args.layer.now) (c.post.new.self ≡ layers) _ c.post.result
    (on_both (c.post.new.self ≡ set layers c.args.rater o) (IsFew c.args.layer.now) c.post.result c.post.ensures.ok c.post.ensures.few) c.post.ensures.err
    (λ p. after_set c.self.inside.raters documents v.items c.self.invariant c.args.doc h layers is c.as_mut_slice.result.now c.as_mut_slice.ensures.value
    c.args.rater o p.1 c.post.new.self c.post.new.totals _ p.0 same (with_items_is v c.post.new.totals size) c.post.ensures.shifts)
    (λ e. after_same c.self.inside.raters documents v.items c.self.invariant c.args.doc h layers is c.as_mut_slice.result.now c.as_mut_slice.ensures.value
    c.post.new.self c.post.new.totals _ e same (with_items_is v c.post.new.totals size) c.post.ensures.shifts)
