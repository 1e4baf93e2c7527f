use Rattle.std.proofs.Common.{refl}
use Rattle.std.specs.Str.{chars}
use Rattle.mark_base.specs.Names.{slug_fault}
use Rattle.matchit.proofs.OnLiterals.{matchit_on_literals}
use Rattle.http_answers.specs.Routes.Routes.{table}
use Rattle.http_answers.proofs.routes.worked_paths.examples_of_desk_routes.Goals as goal

pub returns-clause-show : goal.returns-clause-show
unfolding matchit_on_literals chars slug_fault table
returns-clause-show c = refl

pub returns-clause-carry_out : goal.returns-clause-carry_out
unfolding matchit_on_literals chars slug_fault table
returns-clause-carry_out c = refl

pub returns-clause-undo : goal.returns-clause-undo
unfolding matchit_on_literals chars slug_fault table
returns-clause-undo c = refl

pub returns-clause-redo : goal.returns-clause-redo
unfolding matchit_on_literals chars slug_fault table
returns-clause-redo c = refl

pub returns-clause-load : goal.returns-clause-load
unfolding matchit_on_literals chars slug_fault table
returns-clause-load c = refl

pub returns-clause-commit : goal.returns-clause-commit
unfolding matchit_on_literals chars slug_fault table
returns-clause-commit c = refl

pub returns-clause-park : goal.returns-clause-park
unfolding matchit_on_literals chars slug_fault table
returns-clause-park c = refl
