use Rattle.std.proofs.Common.{refl}
use Rattle.std.specs.Str.{is_utf8, chars}
use lib.Utf8.{encode}
use Rattle.csv.proofs.OnLiterals.{csv_on_literals}
use Rattle.mark_base.specs.Names.{slug_fault}
use Rattle.project_machine.specs.People.{roster_fault, name_twice}
use Rattle.roster_file.proofs.worked_rows.examples_of_roster_files.Goals as goal

pub returns-clause-bad_role : goal.returns-clause-bad_role
unfolding csv_on_literals is_utf8 chars slug_fault encode
returns-clause-bad_role c = refl

pub returns-clause-no_curator : goal.returns-clause-no_curator
unfolding csv_on_literals is_utf8 chars slug_fault roster_fault name_twice encode
returns-clause-no_curator c = refl

pub returns-clause-bad_row : goal.returns-clause-bad_row
unfolding csv_on_literals is_utf8 chars slug_fault encode
returns-clause-bad_row c = refl

pub returns-clause-bad_name : goal.returns-clause-bad_name
unfolding csv_on_literals is_utf8 chars slug_fault encode
returns-clause-bad_name c = refl
