use Rattle.layer_rules.proofs.ChainLemmas.{chains_begin}
use Rattle.layer_rules.proofs.event_chains.deep_events.Goals as goal

pub deeper-requires : goal.deeper-requires
deeper-requires c = chains_begin c.args.layer.now c.events.result.now.entries c.events.ensures
