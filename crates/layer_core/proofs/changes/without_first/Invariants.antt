use Rattle.std.proofs.Common.{◌≡◌, ◌++◌, length}
use Rattle.layer_core.specs.MadeLayers.{without_first}
use Rattle.layer_core.proofs.changes.without_first.Given as goal

abbrev pub invariant-loop-arg : goal.invariant-loop-arg
invariant-loop-arg l = l.fewer.items ++ without_first l.wanted l.left ≡ without_first l.wanted l.args

abbrev pub decreases-loop-arg : goal.decreases-loop-arg
decreases-loop-arg l = length l.left
