use Rattle.content_keys.proofs.LawLemmas.{parts_decide}
use Rattle.content_keys.proofs.laws.contents_are_their_parts.Goals as goal

pub returns : goal.returns
returns c = parts_decide
