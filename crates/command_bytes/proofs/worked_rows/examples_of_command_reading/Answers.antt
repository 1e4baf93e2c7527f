use Rattle.std.proofs.Common.{refl}
use Rattle.entry_bytes.specs.Reading.{u32_at, flag_at, below_at}
use Rattle.command_bytes.specs.CommandReading.{ann_id_at, name_at, spelling_at, long_at, value_at, plain_at, clear_attribute_at}
use Rattle.command_bytes.proofs.worked_rows.examples_of_command_reading.Goals as goal

pub returns-clause-an_id : goal.returns-clause-an_id
unfolding u32_at flag_at below_at ann_id_at name_at spelling_at long_at value_at plain_at clear_attribute_at
returns-clause-an_id c = refl

pub returns-clause-no_letter : goal.returns-clause-no_letter
unfolding u32_at flag_at below_at ann_id_at name_at spelling_at long_at value_at plain_at clear_attribute_at
returns-clause-no_letter c = refl

pub returns-clause-no_number : goal.returns-clause-no_number
unfolding u32_at flag_at below_at ann_id_at name_at spelling_at long_at value_at plain_at clear_attribute_at
returns-clause-no_number c = refl

pub returns-clause-cut : goal.returns-clause-cut
unfolding u32_at flag_at below_at ann_id_at name_at spelling_at long_at value_at plain_at clear_attribute_at
returns-clause-cut c = refl

pub returns-clause-short_name : goal.returns-clause-short_name
unfolding u32_at flag_at below_at ann_id_at name_at spelling_at long_at value_at plain_at clear_attribute_at
returns-clause-short_name c = refl

pub returns-clause-no_value : goal.returns-clause-no_value
unfolding u32_at flag_at below_at ann_id_at name_at spelling_at long_at value_at plain_at clear_attribute_at
returns-clause-no_value c = refl

pub returns-clause-bad_flag : goal.returns-clause-bad_flag
unfolding u32_at flag_at below_at ann_id_at name_at spelling_at long_at value_at plain_at clear_attribute_at
returns-clause-bad_flag c = refl

pub returns-clause-a_command : goal.returns-clause-a_command
unfolding u32_at flag_at below_at ann_id_at name_at spelling_at long_at value_at plain_at clear_attribute_at
returns-clause-a_command c = refl

pub returns-clause-no_command : goal.returns-clause-no_command
unfolding u32_at flag_at below_at ann_id_at name_at spelling_at long_at value_at plain_at clear_attribute_at
returns-clause-no_command c = refl
