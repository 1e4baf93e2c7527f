use Rattle.std.proofs.Common.{refl}
use Rattle.std.specs.Str.{chars}
use Rattle.mark_base.specs.Names.{slug_fault}
use Rattle.matchit.proofs.OnLiterals.{matchit_on_literals}
use Rattle.http_answers.specs.Routes.Routes.{table}
use Rattle.http_answers.proofs.routes.worked_paths.examples_of_layer_routes.Goals as goal

pub returns-clause-read : goal.returns-clause-read
unfolding matchit_on_literals chars slug_fault table
returns-clause-read c = refl

pub returns-clause-reopen : goal.returns-clause-reopen
unfolding matchit_on_literals chars slug_fault table
returns-clause-reopen c = refl

pub returns-clause-ignore : goal.returns-clause-ignore
unfolding matchit_on_literals chars slug_fault table
returns-clause-ignore c = refl

pub returns-clause-readmit : goal.returns-clause-readmit
unfolding matchit_on_literals chars slug_fault table
returns-clause-readmit c = refl
