use Rattle.std.proofs.Common.{◌≡◌, drop}
use Rattle.layer_core.specs.Commands.{lower_rule}
use Rattle.layer_core.specs.Near.{lowest_rule}
use Rattle.layer_core.proofs.near.lowest_rule.Given as goal

abbrev pub invariant-loop-id : goal.invariant-loop-id
invariant-loop-id l = lower_rule l.lowest (lowest_rule l.conf l.characters l.layer (drop l.id-index l.ids)) ≡ lowest_rule l.conf l.characters l.layer l.ids
