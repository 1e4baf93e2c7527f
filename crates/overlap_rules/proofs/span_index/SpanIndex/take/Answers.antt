use Rattle.std.proofs.Common.{sym, ◌∙◌, ap, subst, is_some}
use Rattle.std.specs.FinMap as map
use Rattle.overlap_rules.specs.TouchingSpans.{Held}
use Rattle.overlap_rules.specs.Buckets.{IsKept, held_in}
use Rattle.overlap_rules.proofs.IndexLemmas.{removed, looked_up}
use Rattle.overlap_rules.proofs.BucketLemmas.{kept_remove}
use Rattle.overlap_rules.proofs.span_index.SpanIndex.take.Goals as goal

pub invariant_of-self : goal.invariant_of-self
invariant_of-self c =
    let before : Held = held_in c.self.inside.spans.entries in
    subst (λ held. IsKept held c.take_near.new.places c.take_starts.new.places) (sym (removed _ _ c.args.number c.remove.ensures.updates.0))
    (kept_remove before c.self.inside.covered c.self.inside.begun c.take_near.new.places c.take_starts.new.places c.args.number c.self.invariant c.take_near.ensures c.take_starts.ensures)

pub returns-in-Some-clause-left : goal.returns-in-Some-clause-left
returns-in-Some-clause-left c =
    removed _ _ c.args.number c.remove.ensures.updates.0
    ∙ ap (λ (held : Held). map.remove held c.args.number) c.self.view_is

pub returns-in-Some-clause-held : goal.returns-in-Some-clause-held
returns-in-Some-clause-held c =
    ap is_some (sym c.in-Some.is ∙ c.remove.ensures.value ∙ sym (looked_up c.self.inside.spans.entries c.args.number)
    ∙ ap (λ (held : Held). map.get held c.args.number) c.self.view_is)

pub returns-in-None-clause-left : goal.returns-in-None-clause-left
returns-in-None-clause-left c =
    removed _ _ c.args.number c.remove.ensures.updates.0
    ∙ ap (λ (held : Held). map.remove held c.args.number) c.self.view_is

pub returns-in-None-clause-held : goal.returns-in-None-clause-held
returns-in-None-clause-held c =
    ap is_some (sym c.in-None.is ∙ c.remove.ensures.value ∙ sym (looked_up c.self.inside.spans.entries c.args.number)
    ∙ ap (λ (held : Held). map.get held c.args.number) c.self.view_is)
