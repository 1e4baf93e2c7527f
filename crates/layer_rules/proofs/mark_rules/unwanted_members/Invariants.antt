use Rattle.std.proofs.Common.{◌≡◌, drop, map}
use Rattle.layer_rules.specs.MarkRules.{first_unwanted, member}
use Rattle.layer_rules.proofs.mark_rules.unwanted_members.Given as goal

abbrev pub invariant-loop-id : goal.invariant-loop-id
invariant-loop-id l = first_unwanted (map (member l.conf l.layer) (drop l.id-index l.ids)) ≡ first_unwanted (map (member l.conf l.layer) l.ids)
