use Rattle.std.proofs.Common.{◌≡◌, drop}
use Rattle.layer_rules.specs.WellFormed.{first_told}
use Rattle.layer_core.specs.Near.{members_of_near}
use Rattle.layer_core.proofs.near.first_members.Given as goal

abbrev pub invariant-loop-class : goal.invariant-loop-class
invariant-loop-class l = first_told (members_of_near l.conf l.layer l.id) (drop l.class-index l.classes) ≡ first_told (members_of_near l.conf l.layer l.id) l.classes
