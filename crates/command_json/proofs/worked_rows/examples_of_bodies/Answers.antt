use Rattle.std.proofs.Common.{refl}
use Rattle.std.specs.Str.{chars, is_utf8}
use Rattle.mark_base.specs.Names.{name_fault}
use Rattle.serde_json.proofs.OnLiterals.{serde_json_on_literals}
use Rattle.command_json.specs.Spellings.{frag_read, argument_read}
use Rattle.command_json.specs.Bodies.{value_of, command_of}
use Rattle.command_json.proofs.worked_rows.examples_of_bodies.Goals as goal

pub returns-clause-a_span : goal.returns-clause-a_span
unfolding serde_json_on_literals is_utf8 chars name_fault frag_read argument_read value_of command_of
returns-clause-a_span c = refl

pub returns-clause-an_event : goal.returns-clause-an_event
unfolding serde_json_on_literals is_utf8 chars name_fault frag_read argument_read value_of command_of
returns-clause-an_event c = refl

pub returns-clause-no_value : goal.returns-clause-no_value
unfolding serde_json_on_literals is_utf8 chars name_fault frag_read argument_read value_of command_of
returns-clause-no_value c = refl

pub returns-clause-a_value : goal.returns-clause-a_value
unfolding serde_json_on_literals is_utf8 chars name_fault frag_read argument_read value_of command_of
returns-clause-a_value c = refl

pub returns-clause-first_colon : goal.returns-clause-first_colon
unfolding serde_json_on_literals is_utf8 chars name_fault frag_read argument_read value_of command_of
returns-clause-first_colon c = refl

pub returns-clause-last_counts : goal.returns-clause-last_counts
unfolding serde_json_on_literals is_utf8 chars name_fault frag_read argument_read value_of command_of
returns-clause-last_counts c = refl

pub returns-clause-another_field : goal.returns-clause-another_field
unfolding serde_json_on_literals is_utf8 chars name_fault frag_read argument_read value_of command_of
returns-clause-another_field c = refl

pub returns-clause-a_missing_field : goal.returns-clause-a_missing_field
unfolding serde_json_on_literals is_utf8 chars name_fault frag_read argument_read value_of command_of
returns-clause-a_missing_field c = refl

pub returns-clause-a_leading_zero : goal.returns-clause-a_leading_zero
unfolding serde_json_on_literals is_utf8 chars name_fault frag_read argument_read value_of command_of
returns-clause-a_leading_zero c = refl

pub returns-clause-no_colon : goal.returns-clause-no_colon
unfolding serde_json_on_literals is_utf8 chars name_fault frag_read argument_read value_of command_of
returns-clause-no_colon c = refl

pub returns-clause-no_word : goal.returns-clause-no_word
unfolding serde_json_on_literals is_utf8 chars name_fault frag_read argument_read value_of command_of
returns-clause-no_word c = refl

pub returns-clause-no_object : goal.returns-clause-no_object
unfolding serde_json_on_literals is_utf8 chars name_fault frag_read argument_read value_of command_of
returns-clause-no_object c = refl
