use Rattle.std.proofs.Common.{◌≡◌, drop}
use Rattle.layer_rules.specs.LowestFlaw.{class_rule, lower_flaw, lowest_from}
use Rattle.layer_rules.proofs.lowest_flaw.lowest_class.Given as goal

abbrev pub invariant-loop-index : goal.invariant-loop-index
invariant-loop-index l =
    lower_flaw l.lowest (lowest_from l.index (class_rule l.scene.conf.now l.scene.layer.now) (drop l.index l.classes))
    ≡ lowest_from 0 (class_rule l.scene.conf.now l.scene.layer.now) l.classes
