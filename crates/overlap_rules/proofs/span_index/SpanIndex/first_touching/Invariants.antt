use Rattle.overlap_rules.specs.Buckets.{held_in}
use Rattle.overlap_rules.proofs.NearLemmas.{Finds}
use Rattle.overlap_rules.proofs.span_index.SpanIndex.first_touching.Given as goal

abbrev pub invariant-loop-frag : goal.invariant-loop-frag
invariant-loop-frag g l =
    Finds (λ number kind answer. goal.F-post g l.test number kind answer) (held_in l.self-inside.spans.entries) l.self-inside.covered l.self-inside.begun l.frags l.frag-index l.skip l.found
