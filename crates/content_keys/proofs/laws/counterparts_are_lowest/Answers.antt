use Rattle.content_keys.proofs.LawLemmas.{lowest_found}
use Rattle.content_keys.proofs.laws.counterparts_are_lowest.Goals as goal

pub returns : goal.returns
returns c = lowest_found
