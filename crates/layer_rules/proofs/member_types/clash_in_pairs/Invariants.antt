use Rattle.std.proofs.Common.{◌≡◌, length}
use Rattle.layer_rules.specs.Targets.{type_of}
use Rattle.layer_rules.specs.LayerRules.{may_be_equal}
use Rattle.layer_rules.specs.MemberTypes.{has_unfit}
use Rattle.layer_rules.proofs.member_types.clash_in_pairs.Given as goal

abbrev pub invariant-loop-id : goal.invariant-loop-id
invariant-loop-id l = has_unfit (λ a b. may_be_equal l.conf l.kind.n (type_of l.layer a) (type_of l.layer b)) l.left ≡ has_unfit (λ a b. may_be_equal l.conf l.kind.n (type_of l.layer a) (type_of l.layer b)) l.ids

abbrev pub decreases-loop-id : goal.decreases-loop-id
decreases-loop-id l = length l.left
