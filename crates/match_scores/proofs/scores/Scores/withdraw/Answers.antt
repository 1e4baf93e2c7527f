use Rattle.std.proofs.Common.{◌≡◌, ◌<◌, List, [], None, length, sym, ap, ◌∙◌, arith}
use Rattle.std.proofs.lemmas.List.{get_or_default, with_items_is}
use Rattle.match_scores.specs.declared.tally.Tallies.{Tallies}
use Rattle.match_scores.specs.Standing.{Standing, document_at}
use Rattle.match_scores.proofs.ScoreLemmas.{after_set, document_enough, document_room}
use Rattle.match_scores.proofs.scores.Scores.withdraw.Goals as goal

pub withdraw-requires-clause-enough : goal.withdraw-requires-clause-enough
withdraw-requires-clause-enough c =
    let documents = c.self.inside.documents.items in
    let h : c.args.doc < length documents = omega (arith, c.requires.doc_in, ap (λ (s : Standing). length s.documents) c.self.view_is) in
    let is : c.index_mut-document.result.now ≡ document_at documents c.args.doc = c.index_mut-document.ensures.value ∙ get_or_default documents c.args.doc c.index_mut-document.result.now [] h in
    document_enough c.self.inside.raters documents c.self.inside.totals.items c.self.invariant c.args.doc h c.index_mut-document.result.now is c.as_mut_slice.result.now c.as_mut_slice.ensures.value

pub withdraw-requires-clause-room : goal.withdraw-requires-clause-room
withdraw-requires-clause-room c =
    let documents = c.self.inside.documents.items in
    let h : c.args.doc < length documents = omega (arith, c.requires.doc_in, ap (λ (s : Standing). length s.documents) c.self.view_is) in
    let is : c.index_mut-document.result.now ≡ document_at documents c.args.doc = c.index_mut-document.ensures.value ∙ get_or_default documents c.args.doc c.index_mut-document.result.now [] h in
    document_room c.self.inside.raters documents c.self.inside.totals.items c.self.invariant c.args.doc h c.index_mut-document.result.now is c.as_mut_slice.result.now c.as_mut_slice.ensures.value c.args.rater None tt

pub invariant_of-self : goal.invariant_of-self
invariant_of-self c =
    let documents = c.self.inside.documents.items in
    let v = c.self.inside.totals in
    let h : c.args.doc < length documents = omega (arith, c.requires.doc_in, ap (λ (s : Standing). length s.documents) c.self.view_is) in
    let is : c.index_mut-document.result.now ≡ document_at documents c.args.doc = c.index_mut-document.ensures.value ∙ get_or_default documents c.args.doc c.index_mut-document.result.now [] h in
    let same : length c.withdraw.new.totals ≡ length c.as_mut_slice.result.now = c.withdraw.auto.totals in
    let size : length c.withdraw.new.totals ≡ v.len = same ∙ ap (λ (l : List Tallies). length l) c.as_mut_slice.ensures.value ∙ sym v.ok.0 in
    after_set c.self.inside.raters documents v.items c.self.invariant c.args.doc h c.index_mut-document.result.now is c.as_mut_slice.result.now c.as_mut_slice.ensures.value
    c.args.rater None tt c.withdraw.new.self c.withdraw.new.totals _ c.withdraw.ensures.gone same (with_items_is v c.withdraw.new.totals size) c.withdraw.ensures.shifts
