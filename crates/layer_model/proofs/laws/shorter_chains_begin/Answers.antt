use Rattle.std.proofs.Common.{add-one}
use Rattle.layer_model.proofs.Chains.{shorter}
use Rattle.layer_model.proofs.laws.shorter_chains_begin.Goals as goal

pub returns : goal.returns
returns c layer count number h = shorter layer count number (rw add-one at h)
