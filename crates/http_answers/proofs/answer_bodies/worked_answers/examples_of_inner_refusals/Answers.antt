use Rattle.std.proofs.Common.{refl}
use Rattle.serde_json.proofs.OnLiterals.{serde_json_on_literals}
use Rattle.http_answers.proofs.answer_bodies.worked_answers.examples_of_inner_refusals.Goals as goal

pub returns-clause-broken : goal.returns-clause-broken
unfolding serde_json_on_literals
returns-clause-broken c = λ event role. refl

pub returns-clause-broken_and_bare : goal.returns-clause-broken_and_bare
unfolding serde_json_on_literals
returns-clause-broken_and_bare c = refl

pub returns-clause-full_desk : goal.returns-clause-full_desk
unfolding serde_json_on_literals
returns-clause-full_desk c = refl

pub returns-clause-no_item : goal.returns-clause-no_item
unfolding serde_json_on_literals
returns-clause-no_item c = refl

pub returns-clause-already_in : goal.returns-clause-already_in
unfolding serde_json_on_literals
returns-clause-already_in c = refl

pub returns-clause-not_in : goal.returns-clause-not_in
unfolding serde_json_on_literals
returns-clause-not_in c = refl

pub returns-clause-not_decided : goal.returns-clause-not_decided
unfolding serde_json_on_literals
returns-clause-not_decided c = refl

pub returns-clause-needs_item : goal.returns-clause-needs_item
unfolding serde_json_on_literals
returns-clause-needs_item c = λ item. refl

pub returns-clause-broken_decision : goal.returns-clause-broken_decision
unfolding serde_json_on_literals
returns-clause-broken_decision c = λ id. refl

pub returns-clause-quoted : goal.returns-clause-quoted
unfolding serde_json_on_literals
returns-clause-quoted c = refl
