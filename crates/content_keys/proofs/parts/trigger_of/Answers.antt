use Rattle.std.proofs.Common.{refl}
use Rattle.content_keys.proofs.IdLemmas.{same_rank}
use Rattle.content_keys.proofs.parts.trigger_of.Goals as goal

pub returns : goal.returns
returns c = same_rank _ _ refl
