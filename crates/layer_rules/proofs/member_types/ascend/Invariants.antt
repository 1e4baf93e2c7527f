use Rattle.std.proofs.Common.{◌≡◌, drop}
use Rattle.layer_rules.specs.MemberTypes.{ascends_from}
use Rattle.layer_rules.proofs.member_types.ascend.Given as goal

abbrev pub invariant-loop-id : goal.invariant-loop-id
invariant-loop-id l = ascends_from l.least (drop l.id-index l.ids) ≡ ascends_from 0 l.ids
