-- Each row is computed.
use Rattle.std.proofs.Common.{refl}
use Rattle.content_keys.specs.Numbers.{listed, paired}
use Rattle.content_keys.specs.Nodes.{number}
use Rattle.content_keys.specs.Contents.{content}
use Rattle.curator_decisions.proofs.worked_rows.examples_of_decisions.Goals as goal

pub returns-clause-needed : goal.returns-clause-needed
unfolding content number listed paired
returns-clause-needed c = λ conf characters. refl

pub returns-clause-not_in : goal.returns-clause-not_in
unfolding content number listed paired
returns-clause-not_in c = λ conf characters. refl

pub returns-clause-already_in : goal.returns-clause-already_in
unfolding content number listed paired
returns-clause-already_in c = λ conf characters. refl

pub returns-clause-not_decided : goal.returns-clause-not_decided
unfolding content number listed paired
returns-clause-not_decided c = λ conf characters. refl

pub returns-clause-no_item : goal.returns-clause-no_item
unfolding content number listed paired
returns-clause-no_item c = λ conf characters. refl

pub returns-clause-not_the_first : goal.returns-clause-not_the_first
unfolding content number listed paired
returns-clause-not_the_first c = λ conf characters. refl
