use Rattle.std.proofs.Common.{refl}
use Rattle.std.specs.Str.{chars}
use Rattle.mark_base.specs.Names.{slug_fault}
use Rattle.matchit.proofs.OnLiterals.{matchit_on_literals}
use Rattle.http_answers.specs.Routes.Routes.{table}
use Rattle.annotation_http.specs.Exchanges.Plans.{planned}
use Rattle.annotation_http.proofs.exchanges.worked_plans.examples_of_refused_messages.Goals as goal

pub returns-clause-no_route : goal.returns-clause-no_route
unfolding matchit_on_literals chars slug_fault table planned
returns-clause-no_route c = refl

pub returns-clause-no_method : goal.returns-clause-no_method
unfolding matchit_on_literals chars slug_fault table planned
returns-clause-no_method c = refl

pub returns-clause-no_caller : goal.returns-clause-no_caller
unfolding matchit_on_literals chars slug_fault table planned
returns-clause-no_caller c = refl

pub returns-clause-no_name : goal.returns-clause-no_name
unfolding matchit_on_literals chars slug_fault table planned
returns-clause-no_name c = refl

pub returns-clause-no_desk : goal.returns-clause-no_desk
unfolding matchit_on_literals chars slug_fault table planned
returns-clause-no_desk c = refl

pub returns-clause-desk_held : goal.returns-clause-desk_held
unfolding matchit_on_literals chars slug_fault table planned
returns-clause-desk_held c = λ x. refl

pub returns-clause-not_yours : goal.returns-clause-not_yours
unfolding matchit_on_literals chars slug_fault table planned
returns-clause-not_yours c = λ x. refl
