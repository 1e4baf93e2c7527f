use Rattle.layer_rules.specs.EventChains.{HoldsChains}
use Rattle.layer_rules.proofs.event_chains.deep_events.Given as goal

abbrev pub invariant-loop-events : goal.invariant-loop-events
invariant-loop-events l = HoldsChains l.layer l.events l.held.entries
