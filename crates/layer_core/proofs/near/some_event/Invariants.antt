use Rattle.std.proofs.Common.{◌≡◌, drop}
use Rattle.std.specs.List.{list_any}
use Rattle.layer_rules.specs.LayerRules.{is_event_id}
use Rattle.layer_core.proofs.near.some_event.Given as goal

abbrev pub invariant-loop-arg : goal.invariant-loop-arg
invariant-loop-arg l = list_any (λ arg. is_event_id arg.target) (drop l.arg-index l.args) ≡ list_any (λ arg. is_event_id arg.target) l.args
