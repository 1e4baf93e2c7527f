use Rattle.layer_rules.proofs.ChainLemmas.{Round}
use Rattle.layer_rules.proofs.event_chains.deeper.Given as goal

abbrev pub invariant-loop-number : goal.invariant-loop-number
invariant-loop-number g l = Round l.layer l.events l.held.entries l.number-iterator
