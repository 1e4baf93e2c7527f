use Rattle.std.proofs.Common.{◌≡◌, drop, ◌==◌}
use Rattle.std.specs.List.{list_all}
use Rattle.std.specs.Prelude.{count_by}
use Rattle.layer_rules.specs.LayerRules.{is_arg}
use Rattle.layer_core.proofs.pairs.stand_as_often.Given as goal

abbrev pub invariant-loop-arg : goal.invariant-loop-arg
invariant-loop-arg l = list_all (λ arg. count_by (is_arg arg) l.a == count_by (is_arg arg) l.b) (drop l.arg-index l.some) ≡ list_all (λ arg. count_by (is_arg arg) l.a == count_by (is_arg arg) l.b) l.some
