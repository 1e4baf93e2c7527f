use Rattle.overlap_rules.specs.Buckets.{KeepsOthers}
use Rattle.overlap_rules.proofs.buckets.take_between.Given as goal

abbrev pub invariant-loop-bucket : goal.invariant-loop-bucket
invariant-loop-bucket l = KeepsOthers l.number l.initial.places l.places
