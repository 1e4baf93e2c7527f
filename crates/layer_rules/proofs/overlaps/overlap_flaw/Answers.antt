use Rattle.std.proofs.Common.{◌∙◌, sym, ap, Some}
use Rattle.std.specs.FinMap as finite
use Rattle.mark_base.specs.declared.ann_id.Kind.TheVariants as letter
use Rattle.layer_model.specs.declared.rule.Rule.TheVariants.{OverlapRefused}
use Rattle.layer_model.specs.declared.flaw.FlawPlace.TheVariants as at
use Rattle.mark_base.specs.ReadIds.{id_at}
use Rattle.layer_rules.proofs.PairLemmas.{first_item, items}
use Rattle.layer_rules.proofs.PlaceLemmas.{all_entries}
use Rattle.layer_rules.proofs.OverlapLemmas.{allowed_here, by_spans, good_ascending, good_some, no_refusal, none_left, not_held, refused_here, seen_more, seen_none, stands_first, told}
use Rattle.layer_rules.proofs.overlaps.overlap_flaw.Goals as goal

pub returns-then-allows_every_overlap : goal.returns-then-allows_every_overlap
returns-then-allows_every_overlap c =
    no_refusal c.args.conf.now c.args.layer.now c.keeps.ensures c.requires (sym c.allows_every_overlap.ensures ∙ c.if-allows_every_overlap.true)

pub loop-number-init : goal.loop-number-init
loop-number-init c = (
  seen_none c.args.layer.now c.into_iter-number-iterator.result c.spans-number-items.result.now.entries c.new-index.result c.spans-number-items.ensures
      c.into_iter-number-iterator.ensures.into_iter_gives.0 c.into_iter-number-iterator.ensures.into_iter_gives.5 c.new-index.ensures,
  ap (λ r. first_item (told c.args.conf.now c.args.layer.now) (items letter.Text r))
      (all_entries c.args.layer.now.spans c.into_iter-number-iterator.result c.spans-number-items.result.now.entries c.spans-number-items.ensures
      c.into_iter-number-iterator.ensures.into_iter_gives.0 c.into_iter-number-iterator.ensures.into_iter_gives.5),
)

pub first_refused-requires-clause-ascending : goal.first_refused-requires-clause-ascending
first_refused-requires-clause-ascending c = good_ascending c.in-Some.span.now.frags (c.requires c.in-Some.number.now c.in-Some.span.now (stands_first c.args.layer.now c.loop-number.number-iterator c.next.new.self c.loop-number.index c.in-Some.number.now c.in-Some.span.now c.in-Some.ensures.steps c.loop-number.invariant.0)).0

pub first_refused-requires-clause-some : goal.first_refused-requires-clause-some
first_refused-requires-clause-some c = good_some c.in-Some.span.now.frags (c.requires c.in-Some.number.now c.in-Some.span.now (stands_first c.args.layer.now c.loop-number.number-iterator c.next.new.self c.loop-number.index c.in-Some.number.now c.in-Some.span.now c.in-Some.ensures.steps c.loop-number.invariant.0)).0

pub first_refused-requires-clause-short : goal.first_refused-requires-clause-short
first_refused-requires-clause-short c = (c.requires c.in-Some.number.now c.in-Some.span.now (stands_first c.args.layer.now c.loop-number.number-iterator c.next.new.self c.loop-number.index c.in-Some.number.now c.in-Some.span.now c.in-Some.ensures.steps c.loop-number.invariant.0)).1

pub returns-in-Some-first_refused : goal.returns-in-Some-first_refused
returns-in-Some-first_refused c =
    ap (λ id. Some (record { rule = OverlapRefused id; at = at.Mark c.id_at-in-Some-first_refused.result })) c.id_at.ensures
    ∙ ap (λ id. Some (record { rule = OverlapRefused (id_at letter.Text c.in-Some-first_refused.lower); at = at.Mark id })) c.id_at-in-Some-first_refused.ensures
    ∙ refused_here c.args.conf.now c.args.layer.now c.keeps.ensures c.requires c.loop-number.number-iterator c.next.new.self c.loop-number.index c.in-Some.number.now c.in-Some-first_refused.lower c.in-Some.span.now _
    c.in-Some.ensures.steps c.loop-number.invariant.0 c.in-Some-first_refused.ensures c.loop-number.invariant.1
    ∙ sym (by_spans c.args.conf.now c.args.layer.now c.keeps.ensures)

pub put-requires-clause-absent : goal.put-requires-clause-absent
put-requires-clause-absent c =
    not_held c.args.layer.now c.loop-number.number-iterator c.next.new.self c.loop-number.index c.in-Some.number.now c.in-Some.span.now c.in-Some.ensures.steps c.loop-number.invariant.0

pub put-requires-clause-ascending : goal.put-requires-clause-ascending
put-requires-clause-ascending c = rw c.items.ensures (good_ascending c.in-Some.span.now.frags (c.requires c.in-Some.number.now c.in-Some.span.now (stands_first c.args.layer.now c.loop-number.number-iterator c.next.new.self c.loop-number.index c.in-Some.number.now c.in-Some.span.now c.in-Some.ensures.steps c.loop-number.invariant.0)).0)

pub put-requires-clause-some : goal.put-requires-clause-some
put-requires-clause-some c = rw c.items.ensures (good_some c.in-Some.span.now.frags (c.requires c.in-Some.number.now c.in-Some.span.now (stands_first c.args.layer.now c.loop-number.number-iterator c.next.new.self c.loop-number.index c.in-Some.number.now c.in-Some.span.now c.in-Some.ensures.steps c.loop-number.invariant.0)).0)

pub put-requires-clause-short : goal.put-requires-clause-short
put-requires-clause-short c = rw c.items.ensures (c.requires c.in-Some.number.now c.in-Some.span.now (stands_first c.args.layer.now c.loop-number.number-iterator c.next.new.self c.loop-number.index c.in-Some.number.now c.in-Some.span.now c.in-Some.ensures.steps c.loop-number.invariant.0)).1

pub loop-number-preserved : goal.loop-number-preserved
loop-number-preserved c = (
  seen_more c.args.layer.now c.loop-number.number-iterator c.next.new.self c.loop-number.index c.put.new.self c.in-Some.number.now c.in-Some.span.now c.in-Some.ensures.steps
      (c.in_ok-put.ensures.held ∙ ap (finite.insert c.loop-number.index c.in-Some.number.now) c.items.ensures) c.loop-number.invariant.0,
  allowed_here c.args.conf.now c.args.layer.now c.keeps.ensures c.requires c.loop-number.number-iterator c.next.new.self c.loop-number.index c.in-Some.number.now c.in-Some.span.now _
      c.in-Some.ensures.steps c.loop-number.invariant.0 c.in_default.ensures c.loop-number.invariant.1,
)

pub returns : goal.returns
returns c =
    none_left c.args.conf.now c.args.layer.now c.loop-number.number-iterator _ c.in-None.ensures.steps.0 c.loop-number.invariant.1
    ∙ sym (by_spans c.args.conf.now c.args.layer.now c.keeps.ensures)
