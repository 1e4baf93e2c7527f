use Rattle.std.proofs.Common.{◌≡◌, drop, map}
use Rattle.std.specs.List.{list_any}
use Rattle.layer_rules.specs.LayerRules.{is_id}
use Rattle.layer_core.proofs.first_annotation.leads_to.Given as goal

abbrev pub invariant-loop-arg : goal.invariant-loop-arg
invariant-loop-arg l = list_any (is_id l.id) (map (λ arg. arg.target) (drop l.arg-index l.args)) ≡ list_any (is_id l.id) (map (λ arg. arg.target) l.args)
