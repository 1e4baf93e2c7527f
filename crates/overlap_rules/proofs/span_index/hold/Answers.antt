use Rattle.std.proofs.Common.{sym, ◌∙◌, ap, subst}
use Rattle.std.specs.FinMap as map
use Rattle.overlap_rules.specs.TouchingSpans.{Held}
use Rattle.overlap_rules.specs.Buckets.{held_in, IsKept}
use Rattle.overlap_rules.proofs.IndexLemmas.{inserted}
use Rattle.overlap_rules.proofs.BucketLemmas.{kept_put}
use Rattle.overlap_rules.proofs.span_index.hold.Goals as goal

pub returns-clause-kept : goal.returns-clause-kept
returns-clause-kept c =
    let before : Held = held_in c.args.spans.now.entries in
    let changed = inserted _ _ c.args.number c.args.span c.in_ok-insert.ensures.updates.0 in
    subst (λ held. IsKept held c.put_near.new.places c.put_starts.new.places) (sym (changed ∙ ap (map.insert before c.args.number) c.requires.span))
    (kept_put before c.args.covered.now c.args.begun.now c.put_near.new.places c.put_starts.new.places c.args.number c.args.frags.now c.requires.kept c.requires.ascending
    c.in_ok-put_near.ensures.kept c.in_ok-put_near.ensures.all c.in_ok-put_starts.ensures.kept c.in_ok-put_starts.ensures.all)

pub returns-clause-held : goal.returns-clause-held
returns-clause-held c =
    inserted _ _ c.args.number c.args.span c.in_ok-insert.ensures.updates.0 ∙ ap (map.insert (held_in c.args.spans.now.entries) c.args.number) c.requires.span
