use Rattle.std.proofs.Common.{refl}
use Rattle.std.specs.Str.{chars}
use Rattle.mark_base.specs.Names.{slug_fault}
use Rattle.matchit.proofs.OnLiterals.{matchit_on_literals}
use Rattle.http_answers.specs.Routes.Routes.{table}
use Rattle.http_answers.proofs.routes.worked_paths.examples_of_snapshot_routes.Goals as goal

pub returns-clause-items : goal.returns-clause-items
unfolding matchit_on_literals chars slug_fault table
returns-clause-items c = refl

pub returns-clause-curated : goal.returns-clause-curated
unfolding matchit_on_literals chars slug_fault table
returns-clause-curated c = refl

pub returns-clause-decide : goal.returns-clause-decide
unfolding matchit_on_literals chars slug_fault table
returns-clause-decide c = refl

pub returns-clause-undecide : goal.returns-clause-undecide
unfolding matchit_on_literals chars slug_fault table
returns-clause-undecide c = refl
