use Rattle.std.proofs.Common.{◌≡◌, ◌<◌, ◌≤◌, ℕ, true}
use Rattle.overlap_rules.specs.Buckets.{has, Keeps}
use Rattle.overlap_rules.proofs.buckets.put_between.Given as goal

-- each bucket so far has the number, and nothing was taken away
abbrev pub invariant-loop-bucket : goal.invariant-loop-bucket
invariant-loop-bucket l =
    ((bucket : ℕ) → l.first ≤ bucket → bucket < l.bucket → has l.places bucket l.number ≡ true) × Keeps l.initial.places l.places
