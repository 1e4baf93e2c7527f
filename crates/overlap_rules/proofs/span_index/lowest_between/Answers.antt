use Rattle.std.proofs.Common.{◌∙◌}
use Rattle.overlap_rules.specs.Buckets.{held_in}
use Rattle.overlap_rules.proofs.NearLemmas.{looks_more, looks_found, looks_all}
use Rattle.overlap_rules.proofs.span_index.lowest_between.Goals as goal
use Rattle.overlap_rules.proofs.span_index.lowest_between.Goals.{else-is_below-via-then-is_below+else-passes, else-is_below-via-else-is_below}

pub loop-number-preserved-then-passes : goal.loop-number-preserved-then-passes
loop-number-preserved-then-passes g c =
    looks_found _ (held_in c.args.spans.now.entries) c.args.frags.now c.args.skip c.args.before c.into_iter-number-iterator.result c.loop-number.number-iterator c.next.new.self c.in-Some.field-0.now c.loop-number.found
    c.in-Some.ensures.steps (c.is_below.ensures.yes c.if-is_below.true) (c.passes.ensures.yes c.if-passes.true) c.loop-number.invariant

pub loop-number-preserved : goal.loop-number-preserved
loop-number-preserved g c =
    looks_more _ (held_in c.args.spans.now.entries) c.args.frags.now c.args.skip c.args.before c.into_iter-number-iterator.result c.loop-number.number-iterator c.next.new.self c.in-Some.field-0.now c.loop-number.found
    c.in-Some.ensures.steps
    (elim c.else-is_below.branch [
      | else-is_below-via-then-is_below+else-passes w ↦ λ _. w.passes.ensures.no w.if-passes.false
      | else-is_below-via-else-is_below w ↦ λ below. absurd (c.is_below.ensures.no w.if-is_below.false below)
    ]) c.loop-number.invariant

pub returns-clause-others : goal.returns-clause-others
returns-clause-others g c number last less near below =
    looks_all _ (held_in c.args.spans.now.entries) c.args.frags.now c.args.skip c.args.before c.args.places.now c.into_iter-number-iterator.result c.loop-number.number-iterator c.loop-number.found c.args.buckets.0 c.args.buckets.1
    c.in-None.ensures.steps.0
    (c.into_iter-number-iterator.ensures.into_iter_gives ∙ c.range-number-items.ensures.between tt)
    c.loop-number.invariant number last less near below
