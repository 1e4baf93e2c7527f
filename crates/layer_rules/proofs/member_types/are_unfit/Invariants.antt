use Rattle.std.proofs.Common.{◌≡◌, length, Some}
use Rattle.layer_rules.specs.LayerRules.{may_be_equal}
use Rattle.layer_rules.specs.MemberTypes.{has_unfit}
use Rattle.layer_rules.proofs.member_types.are_unfit.Given as goal

abbrev pub invariant-loop-first : goal.invariant-loop-first
invariant-loop-first l = has_unfit (λ a b. may_be_equal l.conf l.kind.n (Some a) (Some b)) l.left ≡ has_unfit (λ a b. may_be_equal l.conf l.kind.n (Some a) (Some b)) l.types

abbrev pub decreases-loop-first : goal.decreases-loop-first
decreases-loop-first l = length l.left
