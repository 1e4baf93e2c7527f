-- Each row is computed.
use Rattle.std.proofs.Common.{refl}
use Rattle.content_keys.specs.Numbers.{listed, paired}
use Rattle.content_keys.specs.Nodes.{number}
use Rattle.content_keys.specs.Contents.{content}
use Rattle.curator_decisions.proofs.worked_rows.examples_of_clashes.Goals as goal

pub returns-clause-two_values : goal.returns-clause-two_values
unfolding content number listed paired
returns-clause-two_values c = λ conf. refl

pub returns-clause-value_and_name : goal.returns-clause-value_and_name
unfolding content number listed paired
returns-clause-value_and_name c = λ conf. refl
