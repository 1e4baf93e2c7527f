use Rattle.std.proofs.Common.{refl}
use Rattle.std.specs.Str.{chars}
use Rattle.mark_base.specs.Names.{slug_fault}
use Rattle.matchit.proofs.OnLiterals.{matchit_on_literals}
use Rattle.http_answers.specs.Routes.Routes.{table}
use Rattle.http_answers.proofs.routes.worked_paths.examples_of_lost_paths.Goals as goal

pub returns-clause-no_path : goal.returns-clause-no_path
unfolding matchit_on_literals chars slug_fault table
returns-clause-no_path c = refl

pub returns-clause-empty : goal.returns-clause-empty
unfolding matchit_on_literals chars slug_fault table
returns-clause-empty c = refl

pub returns-clause-slash_behind : goal.returns-clause-slash_behind
unfolding matchit_on_literals chars slug_fault table
returns-clause-slash_behind c = refl

pub returns-clause-no_name : goal.returns-clause-no_name
unfolding matchit_on_literals chars slug_fault table
returns-clause-no_name c = refl

pub returns-clause-too_deep : goal.returns-clause-too_deep
unfolding matchit_on_literals chars slug_fault table
returns-clause-too_deep c = refl

pub returns-clause-no_slug : goal.returns-clause-no_slug
unfolding matchit_on_literals chars slug_fault table
returns-clause-no_slug c = refl

pub returns-clause-no_slug_by_any_method : goal.returns-clause-no_slug_by_any_method
unfolding matchit_on_literals chars slug_fault table
returns-clause-no_slug_by_any_method c = refl

pub returns-clause-second_no_slug : goal.returns-clause-second_no_slug
unfolding matchit_on_literals chars slug_fault table
returns-clause-second_no_slug c = refl

pub returns-clause-no_number : goal.returns-clause-no_number
unfolding matchit_on_literals chars slug_fault table
returns-clause-no_number c = refl

pub returns-clause-other_method : goal.returns-clause-other_method
unfolding matchit_on_literals chars slug_fault table
returns-clause-other_method c = refl

pub returns-clause-case : goal.returns-clause-case
unfolding matchit_on_literals chars slug_fault table
returns-clause-case c = refl

pub returns-clause-put_elsewhere : goal.returns-clause-put_elsewhere
unfolding matchit_on_literals chars slug_fault table
returns-clause-put_elsewhere c = refl
