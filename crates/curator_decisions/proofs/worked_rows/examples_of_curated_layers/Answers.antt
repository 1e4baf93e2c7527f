-- Each row is computed.
use Rattle.std.proofs.Common.{refl}
use Rattle.content_keys.specs.Numbers.{listed, paired}
use Rattle.content_keys.specs.Nodes.{number}
use Rattle.content_keys.specs.Contents.{content}
use Rattle.curator_decisions.proofs.worked_rows.examples_of_curated_layers.Goals as goal

pub returns-clause-undecided : goal.returns-clause-undecided
unfolding content number listed paired
returns-clause-undecided c = refl

pub returns-clause-decided : goal.returns-clause-decided
unfolding content number listed paired
returns-clause-decided c = refl

pub returns-clause-either_order : goal.returns-clause-either_order
unfolding content number listed paired
returns-clause-either_order c = refl
