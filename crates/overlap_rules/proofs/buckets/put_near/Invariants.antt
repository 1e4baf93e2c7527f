use Rattle.std.proofs.Common.{take}
use Rattle.overlap_rules.specs.Overlaps.{covers}
use Rattle.overlap_rules.specs.Buckets.{IsBeside, Keeps}
use Rattle.overlap_rules.proofs.buckets.put_near.Given as goal

-- the number is spread over the fragments so far, and nothing was taken away
abbrev pub invariant-loop-frag : goal.invariant-loop-frag
invariant-loop-frag l = IsBeside covers l.places l.number (take l.frag-index l.frags) × Keeps l.initial.places l.places
