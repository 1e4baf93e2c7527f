use Rattle.std.proofs.Common.{refl}
use Rattle.std.specs.Str.{chars}
use Rattle.mark_base.specs.Names.{slug_fault}
use Rattle.matchit.proofs.OnLiterals.{matchit_on_literals}
use Rattle.http_answers.specs.Routes.Routes.{table}
use Rattle.annotation_http.specs.Exchanges.Plans.{planned}
use Rattle.annotation_http.proofs.exchanges.worked_plans.examples_of_asking_messages.Goals as goal

pub returns-clause-documents : goal.returns-clause-documents
unfolding matchit_on_literals chars slug_fault table planned
returns-clause-documents c = refl

pub returns-clause-checkout : goal.returns-clause-checkout
unfolding matchit_on_literals chars slug_fault table planned
returns-clause-checkout c = refl

pub returns-clause-commit : goal.returns-clause-commit
unfolding matchit_on_literals chars slug_fault table planned
returns-clause-commit c = λ x. refl
