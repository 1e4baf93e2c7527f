use Rattle.std.proofs.Common.{refl}
use Rattle.std.specs.Str.{chars, is_utf8}
use Rattle.std.specs.Str.Lossy.{utf8_valid_len}
use Rattle.std.specs.Fmt.{digits}
use lib.Utf8.{encode}
use Rattle.mark_base.specs.Names.{name_fault}
use Rattle.conf_model.specs.ConfNames.{file_of}
use Rattle.conf_model.specs.ConfOf.{conf_of}
use Rattle.conf_model.specs.ConfText.{conf_text}
use Rattle.annotation_conf.specs.WorkedFiles.{meetings, macros}
use Rattle.annotation_conf.proofs.worked_rows.files_are_read.Goals as goal

pub returns-clause-meetings : goal.returns-clause-meetings
unfolding conf_of file_of chars is_utf8 utf8_valid_len encode name_fault conf_text digits meetings macros
returns-clause-meetings c = refl

pub returns-clause-meetings_written : goal.returns-clause-meetings_written
unfolding conf_of file_of chars is_utf8 utf8_valid_len encode name_fault conf_text digits meetings macros
returns-clause-meetings_written c = refl

pub returns-clause-meetings_again : goal.returns-clause-meetings_again
unfolding conf_of file_of chars is_utf8 utf8_valid_len encode name_fault conf_text digits meetings macros
returns-clause-meetings_again c = refl

pub returns-clause-macros : goal.returns-clause-macros
unfolding conf_of file_of chars is_utf8 utf8_valid_len encode name_fault conf_text digits meetings macros
returns-clause-macros c = refl

pub returns-clause-macros_written : goal.returns-clause-macros_written
unfolding conf_of file_of chars is_utf8 utf8_valid_len encode name_fault conf_text digits meetings macros
returns-clause-macros_written c = refl

pub returns-clause-macros_again : goal.returns-clause-macros_again
unfolding conf_of file_of chars is_utf8 utf8_valid_len encode name_fault conf_text digits meetings macros
returns-clause-macros_again c = refl
