use Rattle.std.proofs.Common.{refl}
use Rattle.std.specs.Str.{chars}
use Rattle.mark_base.specs.Names.{slug_fault}
use Rattle.matchit.proofs.OnLiterals.{matchit_on_literals}
use Rattle.http_answers.specs.Routes.Routes.{table}
use Rattle.http_answers.proofs.routes.worked_paths.examples_of_document_routes.Goals as goal

pub returns-clause-read_text : goal.returns-clause-read_text
unfolding matchit_on_literals chars slug_fault table
returns-clause-read_text c = refl

pub returns-clause-add_text : goal.returns-clause-add_text
unfolding matchit_on_literals chars slug_fault table
returns-clause-add_text c = refl

pub returns-clause-checkout : goal.returns-clause-checkout
unfolding matchit_on_literals chars slug_fault table
returns-clause-checkout c = refl

pub returns-clause-take_over : goal.returns-clause-take_over
unfolding matchit_on_literals chars slug_fault table
returns-clause-take_over c = refl

pub returns-clause-finish : goal.returns-clause-finish
unfolding matchit_on_literals chars slug_fault table
returns-clause-finish c = refl

pub returns-clause-snap : goal.returns-clause-snap
unfolding matchit_on_literals chars slug_fault table
returns-clause-snap c = refl
