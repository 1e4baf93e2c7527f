use Rattle.std.proofs.Common.{refl}
use Rattle.serde_json.proofs.OnLiterals.{serde_json_on_literals}
use Rattle.http_answers.proofs.answer_bodies.worked_answers.examples_of_refusals.Goals as goal

pub returns-clause-not_on_the_roster : goal.returns-clause-not_on_the_roster
unfolding serde_json_on_literals
returns-clause-not_on_the_roster c = refl

pub returns-clause-no_annotator : goal.returns-clause-no_annotator
unfolding serde_json_on_literals
returns-clause-no_annotator c = refl

pub returns-clause-no_curator : goal.returns-clause-no_curator
unfolding serde_json_on_literals
returns-clause-no_curator c = refl

pub returns-clause-another : goal.returns-clause-another
unfolding serde_json_on_literals
returns-clause-another c = refl

pub returns-clause-no_document : goal.returns-clause-no_document
unfolding serde_json_on_literals
returns-clause-no_document c = refl

pub returns-clause-no_layer : goal.returns-clause-no_layer
unfolding serde_json_on_literals
returns-clause-no_layer c = refl

pub returns-clause-no_snapshot : goal.returns-clause-no_snapshot
unfolding serde_json_on_literals
returns-clause-no_snapshot c = refl

pub returns-clause-layer_out : goal.returns-clause-layer_out
unfolding serde_json_on_literals
returns-clause-layer_out c = refl

pub returns-clause-not_yours : goal.returns-clause-not_yours
unfolding serde_json_on_literals
returns-clause-not_yours c = refl

pub returns-clause-finished : goal.returns-clause-finished
unfolding serde_json_on_literals
returns-clause-finished c = refl

pub returns-clause-nothing_committed : goal.returns-clause-nothing_committed
unfolding serde_json_on_literals
returns-clause-nothing_committed c = refl

pub returns-clause-not_finished : goal.returns-clause-not_finished
unfolding serde_json_on_literals
returns-clause-not_finished c = refl

pub returns-clause-too_few_finished : goal.returns-clause-too_few_finished
unfolding serde_json_on_literals
returns-clause-too_few_finished c = refl

pub returns-clause-document_there : goal.returns-clause-document_there
unfolding serde_json_on_literals
returns-clause-document_there c = refl

pub returns-clause-project_full : goal.returns-clause-project_full
unfolding serde_json_on_literals
returns-clause-project_full c = refl

pub returns-clause-entry_too_long : goal.returns-clause-entry_too_long
unfolding serde_json_on_literals
returns-clause-entry_too_long c = refl

pub returns-clause-keeper : goal.returns-clause-keeper
unfolding serde_json_on_literals
returns-clause-keeper c = refl

pub returns-clause-memory : goal.returns-clause-memory
unfolding serde_json_on_literals
returns-clause-memory c = refl

pub returns-clause-already_ignored : goal.returns-clause-already_ignored
unfolding serde_json_on_literals
returns-clause-already_ignored c = refl

pub returns-clause-not_ignored : goal.returns-clause-not_ignored
unfolding serde_json_on_literals
returns-clause-not_ignored c = refl
