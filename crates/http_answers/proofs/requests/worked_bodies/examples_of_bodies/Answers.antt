use Rattle.std.proofs.Common.{refl}
use Rattle.std.specs.Str.{chars, is_utf8}
use Rattle.mark_base.specs.Names.{slug_fault}
use Rattle.serde_json.proofs.OnLiterals.{serde_json_on_literals}
use Rattle.command_json.specs.Bodies.{value_of}
use Rattle.http_answers.specs.Requests.Bodies.{decision_body, undecision_body}
use Rattle.http_answers.proofs.requests.worked_bodies.examples_of_bodies.Goals as goal

pub returns-clause-text : goal.returns-clause-text
unfolding serde_json_on_literals is_utf8 chars slug_fault value_of decision_body undecision_body
returns-clause-text c = refl

pub returns-clause-characters : goal.returns-clause-characters
unfolding serde_json_on_literals is_utf8 chars slug_fault value_of decision_body undecision_body
returns-clause-characters c = refl

pub returns-clause-no_text : goal.returns-clause-no_text
unfolding serde_json_on_literals is_utf8 chars slug_fault value_of decision_body undecision_body
returns-clause-no_text c = refl

pub returns-clause-accept : goal.returns-clause-accept
unfolding serde_json_on_literals is_utf8 chars slug_fault value_of decision_body undecision_body
returns-clause-accept c = refl

pub returns-clause-reject : goal.returns-clause-reject
unfolding serde_json_on_literals is_utf8 chars slug_fault value_of decision_body undecision_body
returns-clause-reject c = refl

pub returns-clause-last_counts : goal.returns-clause-last_counts
unfolding serde_json_on_literals is_utf8 chars slug_fault value_of decision_body undecision_body
returns-clause-last_counts c = refl

pub returns-clause-another_word : goal.returns-clause-another_word
unfolding serde_json_on_literals is_utf8 chars slug_fault value_of decision_body undecision_body
returns-clause-another_word c = refl

pub returns-clause-another_field : goal.returns-clause-another_field
unfolding serde_json_on_literals is_utf8 chars slug_fault value_of decision_body undecision_body
returns-clause-another_field c = refl

pub returns-clause-a_missing_field : goal.returns-clause-a_missing_field
unfolding serde_json_on_literals is_utf8 chars slug_fault value_of decision_body undecision_body
returns-clause-a_missing_field c = refl

pub returns-clause-no_slug : goal.returns-clause-no_slug
unfolding serde_json_on_literals is_utf8 chars slug_fault value_of decision_body undecision_body
returns-clause-no_slug c = refl

pub returns-clause-no_id : goal.returns-clause-no_id
unfolding serde_json_on_literals is_utf8 chars slug_fault value_of decision_body undecision_body
returns-clause-no_id c = refl

pub returns-clause-no_slash : goal.returns-clause-no_slash
unfolding serde_json_on_literals is_utf8 chars slug_fault value_of decision_body undecision_body
returns-clause-no_slash c = refl

pub returns-clause-undecision : goal.returns-clause-undecision
unfolding serde_json_on_literals is_utf8 chars slug_fault value_of decision_body undecision_body
returns-clause-undecision c = refl

pub returns-clause-no_undecision : goal.returns-clause-no_undecision
unfolding serde_json_on_literals is_utf8 chars slug_fault value_of decision_body undecision_body
returns-clause-no_undecision c = refl
