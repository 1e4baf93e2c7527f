use Rattle.std.proofs.Common.{◌≡◌, ◌&&◌, drop}
use Rattle.std.specs.List.{list_any}
use Rattle.layer_rules.specs.LayerRules.{is_event_id}
use Rattle.layer_rules.specs.EventChains.{is_held}
use Rattle.layer_rules.proofs.event_chains.leads_on.Given as goal

abbrev pub invariant-loop-arg : goal.invariant-loop-arg
invariant-loop-arg g l =
    list_any (λ arg. is_event_id arg.target && is_held l.held.entries arg.target.number) (drop l.arg-index l.args)
    ≡ list_any (λ arg. is_event_id arg.target && is_held l.held.entries arg.target.number) l.args
