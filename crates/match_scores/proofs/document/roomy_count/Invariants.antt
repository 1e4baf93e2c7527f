use Rattle.std.proofs.Common.{◌≡◌, ◌+◌, ◌*◌, min, take, sum_by}
use Rattle.match_scores.specs.Places.{size_of}
use Rattle.match_scores.proofs.document.roomy_count.Given as goal

abbrev pub invariant-loop-one : goal.invariant-loop-one
invariant-loop-one l = l.most ≡ min (2 * sum_by size_of (take l.one-index l.marks) + 128) 18446744073709551615
