use Rattle.std.proofs.Common.{◌≡◌, ℕ, ◌++◌, ◌∙◌, refl, sym, ap, subst, List, Option, length, take, drop}
use Rattle.std.proofs.lemmas.List.{take_at}
use Rattle.mark_base.specs.declared.fragments.Frag.{Frag}
use Rattle.layer_model.specs.declared.span.Span.{Span}
use Rattle.overlap_rules.specs.Overlaps.{covers}
use Rattle.label_tracks.specs.Offers.{AreOffered}
use Rattle.std.specs.FinMap as finite
use Rattle.layer_model.proofs.Maps.{same_list}
use Rattle.label_tracks.specs.declared.candidate.Candidate.{Candidate}
use Rattle.label_tracks.proofs.OfferLemmas.{LeftGives, all_found, next_span, none_yet}
use Rattle.label_tracks.proofs.offers.first_spans.Goals as goal

pub loop-number-init : goal.loop-number-init
loop-number-init c =
    none_yet c.args.tokens.now (finite.entries c.args.layer.now.spans) c.into_iter-number-iterator.result c.in_ok-found.found.items (length c.args.tokens.now) refl c.in_ok-found.ensures
    (c.into_iter-number-iterator.ensures.into_iter_gives.0 ∙ sym (same_list c.spans-number-items.result.now.entries c.into_iter-number-iterator.ensures.into_iter_gives.5) ∙ ap finite.entries c.spans-number-items.ensures)

pub loop-number-preserved : goal.loop-number-preserved
loop-number-preserved c =
    let tokens : List Frag = c.args.tokens.now in
    let all : List (ℕ × Span) = finite.entries c.args.layer.now.spans in
    let span : Span = c.in-Some.span.now in
    let held : List (Option Candidate) = c.loop-number.found.items in
    let new : List (Option Candidate) = c.offer.new.found in
    let kept : length new ≡ length c.deref_mut.result.now = c.offer.auto.found in
    let back : take c.loop-number.found.len (new ++ drop (length new) held) ≡ new = take_at new (drop (length new) held) c.loop-number.found.len (kept ∙ c.deref_mut.ensures.len) in
    let count : length new ≡ length tokens = kept ∙ ap length c.deref_mut.ensures.value ∙ c.loop-number.invariant.0 in
    let offered_now : AreOffered (covers span.frags) tokens c.of-candidate.result held new =
    subst (λ (before : List (Option Candidate)). AreOffered (covers span.frags) tokens c.of-candidate.result before new) c.deref_mut.ensures.value
    (subst (λ (frags : List Frag). AreOffered (covers frags) tokens c.of-candidate.result c.deref_mut.result.now new) c.items.ensures c.offer.ensures) in
    subst (λ (l : List (Option Candidate)). (length l ≡ length tokens) × LeftGives tokens all c.next.new.self l) (sym back)
    (count, next_span tokens all c.loop-number.number-iterator c.next.new.self c.in-Some.number.now span c.of-candidate.result held new c.in-Some.ensures.steps c.of-candidate.ensures c.loop-number.invariant.1 offered_now)

pub returns : goal.returns
returns c = all_found c.args.tokens.now (finite.entries c.args.layer.now.spans) c.loop-number.number-iterator c.loop-number.found.items c.in-None.ensures.steps.0 c.loop-number.invariant.0 c.loop-number.invariant.1
