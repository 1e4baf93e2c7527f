use Rattle.std.proofs.Common.{refl}
use Rattle.serde_json.proofs.OnLiterals.{serde_json_on_literals}
use Rattle.http_answers.proofs.answer_bodies.worked_answers.examples_of_message_faults.Goals as goal

pub returns-clause-no_route : goal.returns-clause-no_route
unfolding serde_json_on_literals
returns-clause-no_route c = refl

pub returns-clause-no_method : goal.returns-clause-no_method
unfolding serde_json_on_literals
returns-clause-no_method c = refl

pub returns-clause-no_caller : goal.returns-clause-no_caller
unfolding serde_json_on_literals
returns-clause-no_caller c = refl

pub returns-clause-no_desk : goal.returns-clause-no_desk
unfolding serde_json_on_literals
returns-clause-no_desk c = refl

pub returns-clause-desk_held : goal.returns-clause-desk_held
unfolding serde_json_on_literals
returns-clause-desk_held c = refl

pub returns-clause-not_yours : goal.returns-clause-not_yours
unfolding serde_json_on_literals
returns-clause-not_yours c = refl

pub returns-clause-bad_body : goal.returns-clause-bad_body
unfolding serde_json_on_literals
returns-clause-bad_body c = refl

pub returns-clause-text_too_long : goal.returns-clause-text_too_long
unfolding serde_json_on_literals
returns-clause-text_too_long c = refl
