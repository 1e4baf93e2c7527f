use Rattle.content_keys.proofs.CountLemmas.{bags_counted}
use Rattle.content_keys.proofs.laws.bags_are_counts.Goals as goal

pub returns : goal.returns
returns c = bags_counted
