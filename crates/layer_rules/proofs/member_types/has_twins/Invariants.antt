use Rattle.std.proofs.Common.{◌≡◌, length}
use Rattle.layer_rules.specs.MemberTypes.{has_twins}
use Rattle.layer_rules.proofs.member_types.has_twins.Given as goal

abbrev pub invariant-loop-id : goal.invariant-loop-id
invariant-loop-id l = has_twins l.left ≡ has_twins l.ids

abbrev pub decreases-loop-id : goal.decreases-loop-id
decreases-loop-id l = length l.left
