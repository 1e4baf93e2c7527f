use Rattle.std.proofs.Common.{◌≡◌, drop}
use Rattle.layer_rules.specs.LayerRules.{equiv_members}
use Rattle.layer_rules.specs.LowestFlaw.{first_from}
use Rattle.layer_rules.proofs.class_rules.first_bad.Given as goal

abbrev pub invariant-loop-index : goal.invariant-loop-index
invariant-loop-index l = first_from l.index (λ _. equiv_members l.conf l.layer) (drop l.index l.classes) ≡ first_from 0 (λ _. equiv_members l.conf l.layer) l.classes
