use Rattle.std.proofs.Common.{◌≡◌, true, false, sym, ◌∙◌, ap, subst, rules}
use Rattle.overlap_rules.specs.Overlaps.{are_ascending, kind_of}
use Rattle.overlap_rules.specs.TouchingSpans.{is_passed_over}
use Rattle.overlap_rules.proofs.IndexLemmas.{looked_up, none_some, same_some}
use Rattle.overlap_rules.proofs.TouchLemmas.{apart_passed, not_passed}
use Rattle.std.proofs.lemmas.Bool.{both_ways}
use Rattle.overlap_rules.proofs.span_index.passes.Goals as goal

pub kind_of-kind-requires-clause-first : goal.kind_of-kind-requires-clause-first
kind_of-kind-requires-clause-first g c =
    ap are_ascending c.items.ensures ∙ c.requires.held c.args.number c.in-Some.span.now (looked_up c.args.spans.now.entries c.args.number ∙ sym c.in-Some.ensures.value)

pub returns-then-ne-clause-yes : goal.returns-then-ne-clause-yes
returns-then-ne-clause-yes g c passed = record {
  span = c.in-Some.span.now;
  held_so = looked_up c.args.spans.now.entries c.args.number ∙ sym c.in-Some.ensures.value;
  touches = not_passed c.args.frags.now c.in-Some.span.now c.args.skip c.args.number (sym c.if-eq.ensures) (search rules);
  passes = subst (λ kind. g.F.Fn.post c.args.test.now (c.args.number, (kind, tt)) true) (c.kind_of-kind.ensures ∙ ap (λ s. kind_of s c.args.frags.now) c.items.ensures)
      (subst (λ answer. g.F.Fn.post c.args.test.now (c.args.number, (c.kind_of-kind.result, tt)) answer) passed c.test.ensures);
}

pub returns-then-ne-clause-no : goal.returns-then-ne-clause-no
returns-then-ne-clause-no g c failed span is touches =
    let same : c.in-Some.span.now ≡ span = same_some (c.in-Some.ensures.value ∙ sym (looked_up c.args.spans.now.entries c.args.number) ∙ is) in
    subst (λ kind. g.F.Fn.post c.args.test.now (c.args.number, (kind, tt)) false) (c.kind_of-kind.ensures ∙ ap (λ s. kind_of s c.args.frags.now) (c.items.ensures ∙ same))
    (subst (λ answer. g.F.Fn.post c.args.test.now (c.args.number, (c.kind_of-kind.result, tt)) answer) failed c.test.ensures)

pub returns-else-ne-clause-no : goal.returns-else-ne-clause-no
returns-else-ne-clause-no g c failed span is touches =
    let same : c.in-Some.span.now ≡ span = same_some (c.in-Some.ensures.value ∙ sym (looked_up c.args.spans.now.entries c.args.number) ∙ is) in
    absurd (both_ways (is_passed_over c.args.frags.now c.args.skip c.args.number span) touches
    (ap (is_passed_over c.args.frags.now c.args.skip c.args.number) (sym same) ∙ apart_passed c.args.frags.now c.in-Some.span.now c.args.skip c.args.number (search rules)))

pub returns-in-None-clause-no : goal.returns-in-None-clause-no
returns-in-None-clause-no g c failed span is touches =
    absurd (none_some (c.in-None.ensures.value ∙ sym (looked_up c.args.spans.now.entries c.args.number) ∙ is))
