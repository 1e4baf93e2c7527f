use Rattle.std.proofs.Common.{refl}
use Rattle.std.specs.Str.{chars, is_utf8}
use Rattle.std.specs.Str.Lossy.{utf8_valid_len}
use Rattle.std.specs.Fmt.{digits}
use lib.Utf8.{encode}
use Rattle.mark_base.specs.Names.{name_fault}
use Rattle.conf_model.specs.ConfNames.{file_of}
use Rattle.conf_model.specs.ConfOf.{conf_of}
use Rattle.annotation_conf.proofs.worked_rows.faults_are_told.Goals as goal

pub returns-clause-not_utf8 : goal.returns-clause-not_utf8
unfolding conf_of file_of chars is_utf8 utf8_valid_len encode name_fault digits
returns-clause-not_utf8 c = (refl, refl, refl)

pub returns-clause-unknown_section : goal.returns-clause-unknown_section
unfolding conf_of file_of chars is_utf8 utf8_valid_len encode name_fault digits
returns-clause-unknown_section c = (refl, refl, refl)

pub returns-clause-section_twice : goal.returns-clause-section_twice
unfolding conf_of file_of chars is_utf8 utf8_valid_len encode name_fault digits
returns-clause-section_twice c = (refl, refl, refl)

pub returns-clause-section_missing : goal.returns-clause-section_missing
unfolding conf_of file_of chars is_utf8 utf8_valid_len encode name_fault digits
returns-clause-section_missing c = (refl, refl, refl)

pub returns-clause-outside_section : goal.returns-clause-outside_section
unfolding conf_of file_of chars is_utf8 utf8_valid_len encode name_fault digits
returns-clause-outside_section c = (refl, refl, refl)

pub returns-clause-bad_indent : goal.returns-clause-bad_indent
unfolding conf_of file_of chars is_utf8 utf8_valid_len encode name_fault digits
returns-clause-bad_indent c = (refl, refl, refl)

pub returns-clause-bad_name : goal.returns-clause-bad_name
unfolding conf_of file_of chars is_utf8 utf8_valid_len encode name_fault digits
returns-clause-bad_name c = (refl, refl, refl)

pub returns-clause-name_twice : goal.returns-clause-name_twice
unfolding conf_of file_of chars is_utf8 utf8_valid_len encode name_fault digits
returns-clause-name_twice c = (refl, refl, refl)

pub returns-clause-bad_count : goal.returns-clause-bad_count
unfolding conf_of file_of chars is_utf8 utf8_valid_len encode name_fault digits
returns-clause-bad_count c = (refl, refl, refl)

pub returns-clause-bad_argument : goal.returns-clause-bad_argument
unfolding conf_of file_of chars is_utf8 utf8_valid_len encode name_fault digits
returns-clause-bad_argument c = (refl, refl, refl)

pub returns-clause-unknown_type_named : goal.returns-clause-unknown_type_named
unfolding conf_of file_of chars is_utf8 utf8_valid_len encode name_fault digits
returns-clause-unknown_type_named c = (refl, refl, refl)

pub returns-clause-unknown_macro : goal.returns-clause-unknown_macro
unfolding conf_of file_of chars is_utf8 utf8_valid_len encode name_fault digits
returns-clause-unknown_macro c = (refl, refl, refl)

pub returns-clause-too_many_types : goal.returns-clause-too_many_types
unfolding conf_of file_of chars is_utf8 utf8_valid_len encode name_fault digits
returns-clause-too_many_types c = refl
