use Rattle.std.proofs.Common.{take}
use Rattle.overlap_rules.specs.Buckets.{begins, IsBeside, Keeps}
use Rattle.overlap_rules.proofs.buckets.put_starts.Given as goal

-- the number stands where the fragments so far begin, and nothing was taken away
abbrev pub invariant-loop-frag : goal.invariant-loop-frag
invariant-loop-frag l = IsBeside begins l.places l.number (take l.frag-index l.frags) × Keeps l.initial.places l.places
