use Rattle.std.proofs.Common.{◌≡◌, drop}
use Rattle.layer_core.specs.Commands.{lower_rule}
use Rattle.layer_core.specs.Near.{lowest_class_rule}
use Rattle.layer_core.proofs.near.lowest_class_rule.Given as goal

abbrev pub invariant-loop-class : goal.invariant-loop-class
invariant-loop-class l = lower_rule l.lowest (lowest_class_rule l.conf l.layer l.id (drop l.class-index l.classes)) ≡ lowest_class_rule l.conf l.layer l.id l.classes
