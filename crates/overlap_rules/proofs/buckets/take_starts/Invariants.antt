use Rattle.overlap_rules.specs.Buckets.{KeepsOthers}
use Rattle.overlap_rules.proofs.buckets.take_starts.Given as goal

abbrev pub invariant-loop-frag : goal.invariant-loop-frag
invariant-loop-frag l = KeepsOthers l.number l.initial.places l.places
