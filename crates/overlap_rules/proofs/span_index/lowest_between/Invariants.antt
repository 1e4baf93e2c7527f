use Rattle.overlap_rules.specs.Buckets.{held_in}
use Rattle.overlap_rules.proofs.NearLemmas.{Looks}
use Rattle.overlap_rules.proofs.span_index.lowest_between.Given as goal

abbrev pub invariant-loop-number : goal.invariant-loop-number
invariant-loop-number g l =
    Looks (λ number kind answer. goal.F-post g l.test number kind answer) (held_in l.spans.entries) l.frags l.skip l.fn.before l.initial.number-iterator l.number-iterator l.found
