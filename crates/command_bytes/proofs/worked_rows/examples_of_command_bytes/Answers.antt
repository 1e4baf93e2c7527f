use Rattle.std.proofs.Common.{refl}
use Rattle.entry_bytes.specs.Fields.{u32_bytes}
use Rattle.command_bytes.specs.CommandBytes.{script_bytes}
use Rattle.command_bytes.proofs.worked_rows.examples_of_command_bytes.Goals as goal

pub returns-clause-a_span : goal.returns-clause-a_span
unfolding u32_bytes script_bytes
returns-clause-a_span c = λ conf text. refl

pub returns-clause-a_type : goal.returns-clause-a_type
unfolding u32_bytes script_bytes
returns-clause-a_type c = λ conf text. refl

pub returns-clause-fragments : goal.returns-clause-fragments
unfolding u32_bytes script_bytes
returns-clause-fragments c = λ conf text. refl

pub returns-clause-an_event : goal.returns-clause-an_event
unfolding u32_bytes script_bytes
returns-clause-an_event c = λ conf text. refl

pub returns-clause-an_argument : goal.returns-clause-an_argument
unfolding u32_bytes script_bytes
returns-clause-an_argument c = λ conf text. refl

pub returns-clause-no_argument : goal.returns-clause-no_argument
unfolding u32_bytes script_bytes
returns-clause-no_argument c = λ conf text. refl

pub returns-clause-a_relation : goal.returns-clause-a_relation
unfolding u32_bytes script_bytes
returns-clause-a_relation c = λ conf text. refl

pub returns-clause-an_attribute : goal.returns-clause-an_attribute
unfolding u32_bytes script_bytes
returns-clause-an_attribute c = λ conf text. refl

pub returns-clause-a_value : goal.returns-clause-a_value
unfolding u32_bytes script_bytes
returns-clause-a_value c = λ conf text. refl

pub returns-clause-no_attribute : goal.returns-clause-no_attribute
unfolding u32_bytes script_bytes
returns-clause-no_attribute c = λ conf text. refl

pub returns-clause-a_class : goal.returns-clause-a_class
unfolding u32_bytes script_bytes
returns-clause-a_class c = λ conf text. refl

pub returns-clause-no_class : goal.returns-clause-no_class
unfolding u32_bytes script_bytes
returns-clause-no_class c = λ conf text. refl

pub returns-clause-a_note : goal.returns-clause-a_note
unfolding u32_bytes script_bytes
returns-clause-a_note c = λ conf text. refl

pub returns-clause-a_reference : goal.returns-clause-a_reference
unfolding u32_bytes script_bytes
returns-clause-a_reference c = λ conf text. refl

pub returns-clause-a_deletion : goal.returns-clause-a_deletion
unfolding u32_bytes script_bytes
returns-clause-a_deletion c = λ conf text. refl

pub returns-clause-a_purge : goal.returns-clause-a_purge
unfolding u32_bytes script_bytes
returns-clause-a_purge c = λ conf text. refl

pub returns-clause-scripts : goal.returns-clause-scripts
unfolding u32_bytes script_bytes
returns-clause-scripts c = λ conf text. refl
