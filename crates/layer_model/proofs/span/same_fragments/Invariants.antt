use Rattle.std.proofs.Common.{◌≡◌, length}
use Rattle.layer_model.specs.Span.{same_fragments}
use Rattle.layer_model.proofs.span.same_fragments.Given as goal

abbrev pub invariant-loop-first : goal.invariant-loop-first
invariant-loop-first l = same_fragments l.left l.right ≡ same_fragments l.a l.b

abbrev pub decreases-loop-first : goal.decreases-loop-first
decreases-loop-first l = length l.left
