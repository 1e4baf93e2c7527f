use Rattle.std.proofs.Common.{refl}
use Rattle.std.specs.Str.{chars}
use Rattle.mark_base.specs.Names.{slug_fault}
use Rattle.matchit.proofs.OnLiterals.{matchit_on_literals}
use Rattle.http_answers.specs.Routes.Routes.{table}
use Rattle.http_answers.proofs.routes.worked_paths.examples_of_project_routes.Goals as goal

pub returns-clause-conf : goal.returns-clause-conf
unfolding matchit_on_literals chars slug_fault table
returns-clause-conf c = refl

pub returns-clause-documents : goal.returns-clause-documents
unfolding matchit_on_literals chars slug_fault table
returns-clause-documents c = refl

pub returns-clause-pairs : goal.returns-clause-pairs
unfolding matchit_on_literals chars slug_fault table
returns-clause-pairs c = refl

pub returns-clause-alpha : goal.returns-clause-alpha
unfolding matchit_on_literals chars slug_fault table
returns-clause-alpha c = refl

pub returns-clause-progress : goal.returns-clause-progress
unfolding matchit_on_literals chars slug_fault table
returns-clause-progress c = refl

pub returns-clause-snapshots : goal.returns-clause-snapshots
unfolding matchit_on_literals chars slug_fault table
returns-clause-snapshots c = refl

pub returns-clause-roster : goal.returns-clause-roster
unfolding matchit_on_literals chars slug_fault table
returns-clause-roster c = refl
